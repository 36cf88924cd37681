-- How long an answer can be. Assumes nothing.
use Rattle.std.proofs.Common.{◌≡◌, ℕ, zero, suc, ◌+◌, ◌*◌, ◌/◌, ◌%◌, ◌^◌, ◌<◌, ◌≤◌, max, length, decimal, ap, ◌∙◌, ⊎_elim, arith}
use Rattle.std.proofs.Math.Nat.{pow-suc}
use Rattle.std.proofs.lemmas.Bool.{cases_lt}
use Rattle.std.proofs.lemmas.Fmt.{decimal_digit, decimal_step, decimal_nonempty, length-decimal-le}
use Rattle.std.proofs.lemmas.List.{length_push}
use Rattle.rights.specs.declared.commands.Ground.{Ground}
use Rattle.rights.specs.declared.faults.BookFault.{BookFault}
use Rattle.rights.specs.declared.faults.RollFault.{RollFault}
use Rattle.rights.specs.declared.faults.RegisterFault.{RegisterFault}
use Rattle.rights.specs.declared.faults.SheetFault.{SheetFault}
use Rattle.rights.specs.Faults.{book_number, roll_number, register_number, register_layer, number, layer}
use Rattle.rights.specs.Numbers.{ground_number}

book_small : (f : BookFault) → book_number f ≤ 18
book_small BookFault.ShortList = omega arith
book_small BookFault.BadNumber = omega arith
book_small BookFault.Taken = omega arith
book_small BookFault.Absent = omega arith
book_small BookFault.Full = omega arith

roll_small : (f : RollFault) → roll_number f ≤ 18
roll_small RollFault.ShortList = omega arith
roll_small RollFault.BadNumber = omega arith
roll_small RollFault.Taken = omega arith
roll_small RollFault.Absent = omega arith
roll_small RollFault.Loop = omega arith
roll_small RollFault.Full = omega arith

register_small : (f : RegisterFault) → (register_number f ≤ 18) × (register_layer f ≤ 4)
register_small RegisterFault.ShortSlate = omega arith
register_small RegisterFault.ShortList = omega arith
register_small RegisterFault.BadNumber = omega arith
register_small RegisterFault.Stranger = omega arith
register_small RegisterFault.NoTable = omega arith
register_small RegisterFault.NotTheirs = omega arith
register_small RegisterFault.Taken = omega arith
register_small RegisterFault.NoMandate = omega arith
register_small RegisterFault.ViewDenied = omega arith
register_small RegisterFault.Clash = omega arith
register_small RegisterFault.BuiltUpon = omega arith
register_small RegisterFault.MakeUp = omega arith
register_small RegisterFault.Nobody = omega arith
register_small (RegisterFault.Book f) = (book_small f, omega arith)
register_small (RegisterFault.Roll f) = (roll_small f, omega arith)

fault_small : (f : SheetFault) → (number f ≤ 18) × (layer f ≤ 4)
fault_small SheetFault.Unreadable = omega arith
fault_small SheetFault.OutOfTurn = omega arith
fault_small (SheetFault.Register f) = register_small f

ground_small : (g : Ground) → ground_number g ≤ 3
ground_small Ground.Nothing = omega arith
ground_small Ground.Strong = omega arith
ground_small Ground.Weak = omega arith
ground_small Ground.Named = omega arith

pub ground_short : (g : Ground) → length (decimal (ground_number g)) ≤ 1
ground_short g = length-decimal-le 1 (ground_number g) (omega arith) (omega (arith, ground_small g)) (omega (arith, ground_small g))

pub number_short : (f : SheetFault) → length (decimal (number f)) ≤ 2
number_short f = length-decimal-le 2 (number f) (omega arith) (omega (arith, (fault_small f).0)) (omega (arith, (fault_small f).0))

pub layer_short : (f : SheetFault) → length (decimal (layer f)) ≤ 1
layer_short f = length-decimal-le 1 (layer f) (omega arith) (omega (arith, (fault_small f).1)) (omega (arith, (fault_small f).1))

pub count_short : (n : ℕ) → n < 2 ^ 32 → length (decimal n) ≤ 10
count_short n small = length-decimal-le 10 n (omega arith) (omega arith) (omega arith)

-- how long each part of an answer can be
pub ruleset short = (count_short, ground_short, number_short, layer_short)

ten_pos : (k : ℕ) → 0 < 10 ^ k
ten_pos zero = omega arith
ten_pos (suc k) = omega (arith, pow-suc 10 k, ten_pos k)

-- a number from a power of ten on has more digits than its exponent
longer : (k n : ℕ) → 10 ^ k ≤ n → n < 2 ^ 64 → k < length (decimal n)
longer zero n low small = decimal_nonempty n small
longer (suc k) n low small =
    let more : 10 ≤ n = omega (arith, pow-suc 10 k, ten_pos k) in
    let step : length (decimal n) ≡ length (decimal (n / 10)) + 1 = ap length (decimal_step n more small) ∙ length_push (decimal (n / 10)) (48 + n % 10) in
    omega (arith, step, longer k (n / 10) (omega (arith, pow-suc 10 k)) (omega arith))

-- how many digits a number has, by the power of ten under it
pub digits_many : (n k : ℕ) → n < 2 ^ 32 → 10 ^ k ≤ max n 1 → max n 1 < 10 * 10 ^ k → k + 1 ≡ length (decimal n)
digits_many n k small low high = ⊎_elim none some (cases_lt n 1)
  where
    none : n < 1 → k + 1 ≡ length (decimal n)
    none h = omega (arith, ap length (decimal_digit n (omega arith)), longer k 1 (omega arith) (omega arith), ap length (decimal_digit 1 (omega arith)))

    some : 1 ≤ n → k + 1 ≡ length (decimal n)
    some h = omega (arith, longer k n (omega arith) (omega arith), length-decimal-le (suc k) n (omega arith) (omega (arith, pow-suc 10 k)) (omega arith))
