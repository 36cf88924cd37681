-- What the loop over the lines keeps: the lines read so far have right answers, and their texts are written.
-- Assumes nothing.
use Rattle.std.proofs.Common.{◌≡◌, ℕ, ◌+◌, List, [], ◌∷◌, ◌++◌, length, sym, ap, ◌∙◌, subst, append_assoc, append-nil, arith, length-append}
use Rattle.reader.specs.declared.shapes.Line.{Line}
use Rattle.reader.specs.declared.shapes.Reader.{Reader}
use Rattle.reader.specs.Answers.{answer_line}
use Rattle.reader.specs.Lines.{lines}
use Rattle.reader.specs.Reading.{rest, Next}
use Rattle.rights.specs.declared.commands.Answer.{Answer}
use Rattle.rights.specs.declared.commands.State.{State}
use Rattle.rights.specs.History.{History, empty_history}
use Rattle.marking.specs.Marks.{LineAnswered, Answers, texts}

-- one answer more at the end
texts_push : (n : ℕ) (ys : List Answer) (a : Answer) → texts n (ys ++ (a ∷ [])) ≡ texts n ys ++ answer_line (n + length ys) a
texts_push n [] a = append-nil (answer_line n a) ∙ ap (λ k. answer_line k a) (omega arith)
texts_push n (b ∷ ys) a = ap (λ t. answer_line n b ++ t) (texts_push (n + 1) ys a ∙ ap (λ k. texts (n + 1) ys ++ answer_line k a) (omega arith)) ∙ sym (append_assoc (answer_line n b) (texts (n + 1) ys) (answer_line (n + length (b ∷ ys)) a))

pub record Sofar (sheet : List ℕ) (reader : Reader) (state : State) (h : History) (out : List ℕ) : Type 0 where
  pub done : List Answer
  pub before : (ys : List Answer) → Answers state h (lines (rest reader)) ys → Answers State.SettingUp empty_history (lines sheet) (done ++ ys)
  pub text : out ≡ texts 1 done
  pub counted : reader.line ≡ length done

pub one_more : (sheet : List ℕ) (r s : Reader) (l : Line) (state state' : State) (h h' : History) (out out' : List ℕ) (a : Answer) → Sofar sheet r state h out → Next r l s → LineAnswered state h l.bytes.now a state' h' → out' ≡ out ++ answer_line l.number a → Sofar sheet s state' h' out'
one_more sheet r s l state state' h h' out out' a old next answered new = record {
  done = old.done ++ (a ∷ []);
  before = λ ys rest. subst (Answers State.SettingUp empty_history (lines sheet)) (sym (append_assoc old.done (a ∷ []) ys)) (old.before (a ∷ ys) (subst (λ (ls : List (List ℕ)). Answers state h ls (a ∷ ys)) (sym next.first) (Answers.more answered rest)));
  text = new ∙ ap (λ t. t ++ answer_line l.number a) old.text ∙ ap (λ k. texts 1 old.done ++ answer_line k a) number ∙ sym (texts_push 1 old.done a);
  counted = next.counted ∙ sym (length-append old.done (a ∷ []) ∙ ap (λ k. k + 1) (sym old.counted));
}
  where
    number : l.number ≡ 1 + length old.done
    number = omega (arith, next.number, old.counted)

pub no_more : (sheet : List ℕ) (r : Reader) (state : State) (h : History) (out : List ℕ) → Sofar sheet r state h out → lines (rest r) ≡ [] → (ys : List Answer) × Answers State.SettingUp empty_history (lines sheet) ys × (out ≡ texts 1 ys)
no_more sheet r state h out old none = (old.done, subst (Answers State.SettingUp empty_history (lines sheet)) (append-nil old.done) (old.before [] (subst (λ (ls : List (List ℕ)). Answers state h ls []) (sym none) Answers.none)), old.text)
