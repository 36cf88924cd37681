use Rattle.std.proofs.Common.{inl, inr, arith}
use Rattle.reader.proofs.Figures.{unlike_length, unlike_zero, unlike_digit, reads_one, reads_two, reads_three}
use Rattle.reader.proofs.numbers.value_of.Goals as goal

pub returns-in-48 : goal.returns-in-48
returns-in-48 c = unlike_zero c.args.digits.now (omega arith) (omega arith)

pub returns-in-48-2 : goal.returns-in-48-2
returns-in-48-2 c = unlike_zero c.args.digits.now (omega arith) (omega arith)

pub returns-in-48-3 : goal.returns-in-48-3
returns-in-48-3 c = unlike_zero c.args.digits.now (omega arith) (omega arith)

pub returns-in_err-digit-in-len2 : goal.returns-in_err-digit-in-len2
returns-in_err-digit-in-len2 c = rw c.from_residual.ensures (unlike_digit c.args.digits.now 0 (omega arith) c.in_err-digit-in-len2.ensures)

pub returns-in_err-digit-in-len2-2 : goal.returns-in_err-digit-in-len2-2
returns-in_err-digit-in-len2-2 c = rw c.from_residual-in_err-digit-in-len2-2.ensures (unlike_digit c.args.digits.now 1 (omega arith) c.in_err-digit-in-len2-2.ensures)

pub returns-in_err-digit-in-len3 : goal.returns-in_err-digit-in-len3
returns-in_err-digit-in-len3 c = rw c.from_residual-in_err-digit-in-len3.ensures (unlike_digit c.args.digits.now 0 (omega arith) c.in_err-digit-in-len3.ensures)

pub returns-in_err-digit-in-len3-2 : goal.returns-in_err-digit-in-len3-2
returns-in_err-digit-in-len3-2 c = rw c.from_residual-in_err-digit-in-len3-2.ensures (unlike_digit c.args.digits.now 1 (omega arith) c.in_err-digit-in-len3-2.ensures)

pub returns-in_err-digit-in-len3-3 : goal.returns-in_err-digit-in-len3-3
returns-in_err-digit-in-len3-3 c = rw c.from_residual-in_err-digit-in-len3-3.ensures (unlike_digit c.args.digits.now 2 (omega arith) c.in_err-digit-in-len3-3.ensures)

pub returns-in-len1 : goal.returns-in-len1
returns-in-len1 c = reads_one c.args.digits.now c.digit.result (omega arith) c.digit.ensures

pub returns-in_ok-digit-in-len2-2 : goal.returns-in_ok-digit-in-len2-2
returns-in_ok-digit-in-len2-2 c = reads_two c.args.digits.now _ _ (omega arith) (λ zero. omega arith) c.in_ok-digit-in-len2.ensures c.in_ok-digit-in-len2-2.ensures

pub returns-in_ok-digit-in-len3-3 : goal.returns-in_ok-digit-in-len3-3
returns-in_ok-digit-in-len3-3 c = reads_three c.args.digits.now _ _ _ (omega arith) (λ zero. omega arith) c.in_ok-digit-in-len3.ensures c.in_ok-digit-in-len3-2.ensures c.in_ok-digit-in-len3-3.ensures

pub returns-in_default : goal.returns-in_default
returns-in_default c = unlike_length c.args.digits.now (inl (omega arith))

pub returns-in_default-2 : goal.returns-in_default-2
returns-in_default-2 c = unlike_length c.args.digits.now (inr (omega arith))
