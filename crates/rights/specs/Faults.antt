-- The number and the layer of each refusal, what a refused list is to a book and to a roll, and the answer to a
-- word that was carried out or refused.
use Rattle.std.specs.Prelude.{ℕ, Ok, Err, Result}
use Rattle.rights.specs.declared.commands.Answer.{Answer}
use Rattle.rights.specs.declared.faults.BookFault.{BookFault}
use Rattle.rights.specs.declared.faults.RollFault.{RollFault}
use Rattle.rights.specs.declared.faults.RegisterFault.{RegisterFault}
use Rattle.rights.specs.declared.faults.SheetFault.{SheetFault}
use Rattle.rights.specs.declared.faults.RoomFault.{RoomFault}

abbrev pub book_fault_of : RoomFault → BookFault
book_fault_of RoomFault.ShortList = BookFault.ShortList
book_fault_of RoomFault.BadNumber = BookFault.BadNumber

abbrev pub roll_fault_of : RoomFault → RollFault
roll_fault_of RoomFault.ShortList = RollFault.ShortList
roll_fault_of RoomFault.BadNumber = RollFault.BadNumber

abbrev pub book_number : BookFault → ℕ
book_number BookFault.ShortList = 2
book_number BookFault.BadNumber = 3
book_number BookFault.Taken = 7
book_number BookFault.Absent = 8
book_number BookFault.Full = 12

abbrev pub roll_number : RollFault → ℕ
roll_number RollFault.ShortList = 2
roll_number RollFault.BadNumber = 3
roll_number RollFault.Taken = 7
roll_number RollFault.Absent = 8
roll_number RollFault.Loop = 11
roll_number RollFault.Full = 12

abbrev pub register_number : RegisterFault → ℕ
register_number RegisterFault.ShortSlate = 1
register_number RegisterFault.ShortList = 2
register_number RegisterFault.BadNumber = 3
register_number RegisterFault.Stranger = 4
register_number RegisterFault.NoTable = 5
register_number RegisterFault.NotTheirs = 6
register_number RegisterFault.Taken = 7
register_number RegisterFault.NoMandate = 9
register_number RegisterFault.ViewDenied = 10
register_number RegisterFault.Clash = 13
register_number RegisterFault.BuiltUpon = 14
register_number RegisterFault.MakeUp = 15
register_number RegisterFault.Nobody = 16
register_number (RegisterFault.Book f) = book_number f
register_number (RegisterFault.Roll f) = roll_number f

abbrev pub number : SheetFault → ℕ
number SheetFault.Unreadable = 17
number SheetFault.OutOfTurn = 18
number (SheetFault.Register f) = register_number f

-- 1 sheet, 2 register, 3 book, 4 roll
abbrev pub register_layer : RegisterFault → ℕ
register_layer RegisterFault.ShortSlate = 2
register_layer RegisterFault.ShortList = 2
register_layer RegisterFault.BadNumber = 2
register_layer RegisterFault.Stranger = 2
register_layer RegisterFault.NoTable = 2
register_layer RegisterFault.NotTheirs = 2
register_layer RegisterFault.Taken = 2
register_layer RegisterFault.NoMandate = 2
register_layer RegisterFault.ViewDenied = 2
register_layer RegisterFault.Clash = 2
register_layer RegisterFault.BuiltUpon = 2
register_layer RegisterFault.MakeUp = 2
register_layer RegisterFault.Nobody = 2
register_layer (RegisterFault.Book f) = 3
register_layer (RegisterFault.Roll f) = 4

abbrev pub layer : SheetFault → ℕ
layer SheetFault.Unreadable = 1
layer SheetFault.OutOfTurn = 1
layer (SheetFault.Register f) = register_layer f

-- the answer to a word that was carried out, or refused
abbrev pub answer_of : Result (Unit {0}) SheetFault → Answer
answer_of (Ok x) = Answer.Done
answer_of (Err f) = Answer.Refused f
