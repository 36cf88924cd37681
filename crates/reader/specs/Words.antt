-- The fourteen words of a sheet, as bytes.
use Rattle.std.specs.Prelude.{ℕ, List, codes}
use Rattle.reader.specs.declared.words.Word.{Word}

abbrev pub text : Word → List ℕ
text Word.User = codes "user"
text Word.Group = codes "group"
text Word.Open = codes "open"
text Word.Close = codes "close"
text Word.Admit = codes "admit"
text Word.Remove = codes "remove"
text Word.Base = codes "base"
text Word.View = codes "view"
text Word.Drop = codes "drop"
text Word.Give = codes "give"
text Word.Ungive = codes "ungive"
text Word.Lend = codes "lend"
text Word.Unlend = codes "unlend"
text Word.May = codes "may"
