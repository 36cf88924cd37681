use Rattle.std.proofs.Common.{◌≡◌, true, is_ok, None, sym, refl, ap, ◌∙◌, subst, inl}
use Rattle.std.proofs.lemmas.Bool.{false≢true}
use Rattle.rights.specs.Checks.{First}
use Rattle.rights.specs.Lists.{In}
use Rattle.book.specs.Effects.{with_entry, without_entry, put_checks}
use Rattle.book.proofs.Members.{with_in}
use Rattle.book.proofs.Refused.{no_fault, of_ok}
use Rattle.book.proofs.Undone.{put_undone, then_taken}
use Rattle.book_cases.proofs.trial.first_with.Goals as goal

pub returns : goal.returns
returns g c =
    let book = g.B.Book in
    let old = c.args.book.now in
    let es = book.entries old in
    let fs = book.entries c.put.new.self in
    let e = c.args.e in
    let new : In e es → ⊥ = λ h. false≢true (c.if-holds.ensures.1 h) in
    let ok : is_ok c.put.result ≡ true = c.if-is_err.ensures.negation in
    let put : fs ≡ with_entry e es = of_ok c.put.result ok c.put.ensures.put in
    let passed : First (put_checks es (book.most old) e) None = subst (First (put_checks es (book.most old) e)) (no_fault c.put.result ok) c.put.ensures.refuses in
    let took : is_ok c.take.result ≡ true = then_taken e es fs (book.most old) c.take.result passed c.take.ensures.refuses (subst (In e) (sym put) (with_in e e es (inl refl))) in
    record {
      same = of_ok c.take.result took c.take.ensures.taken ∙ ap (without_entry e) put ∙ put_undone e es (book.laws old).rising new;
      ceiling = c.take.ensures.ceiling ∙ c.put.ensures.ceiling;
    }
