-- What stays as a register grows: strong answers, and every answer about a table that was there before.
use Rattle.std.proofs.Common.{◌≡◌, ℕ, List, Some, None, sym, ap, ◌∙◌, subst, inl, inr, ⊎_elim}
use Rattle.std.proofs.lemmas.Bool.{cases_eq}
use Rattle.std.proofs.lemmas.Option.{none-some}
use Rattle.rights.specs.declared.commands.Answer.{Answer}
use Rattle.rights.specs.declared.commands.Ground.{Ground}
use Rattle.rights.specs.declared.entries.Entry.{Entry}
use Rattle.rights.specs.declared.entries.Pair.{Pair}
use Rattle.rights.specs.Clash.{Clash}
use Rattle.rights.specs.Holding.{Holds, StrongPlus, StrongMinus}
use Rattle.rights.specs.Lists.{In}
use Rattle.rights.specs.Laws.{SameBelow, StrongStays, MadeApart, DroppedApart}
use Rattle.rights.specs.Tables.{Table, Tables, made, unmade, Names, Beneath, AtOrBeneath, Stands, Level, level, Levelled}
use Rattle.rights.proofs.Clash.{denied_grows, denied_clash}
use Rattle.rights.proofs.Grounds.{answers_says, says_answers}
use Rattle.rights.proofs.Holding.{strong_plus_grows}
use Rattle.rights.proofs.Reading.{same_back, beneath_back, strong_plus_same, reads_below}
use Rattle.rights.proofs.Tables.{beneath_names, beneath_named, beneath_base, beneath_lower, put_other}

pub strong_stays : StrongStays
strong_stays pairs pairs' tables tables' entries entries' more u p t = (
  (λ h. says_answers pairs' tables' entries' u p t (Answer.Yes Ground.Strong)
      (strong_plus_grows pairs pairs' more.pairs_stay entries entries' more.entries_stay tables tables' more.tables_stay u p t (answers_says pairs tables entries u p t (Answer.Yes Ground.Strong) h))),
  (λ apart h.
      let denied = denied_grows pairs pairs' more.pairs_stay tables tables' more.tables_stay entries entries' more.entries_stay u p t (answers_says pairs tables entries u p t (Answer.No Ground.Strong) h).1 in
      says_answers pairs' tables' entries' u p t (Answer.No Ground.Strong) ((λ plus. apart (denied_clash pairs' tables' entries' u p t plus denied)), denied)),
)

module _ (tables : Tables) (t : ℕ) (r : Table) where
  made_other : (d : ℕ) → (d ≡ t → ⊥) → tables d ≡ made t r tables d
  made_other d apart = sym (put_other tables t (Some r) d apart)

  -- what is beneath a table stands
  beneath_stands : Levelled tables → (b d : ℕ) → Beneath tables b d → Stands tables b
  beneath_stands levels b d q =
      let n = (beneath_names tables q).1 in
      let l = levels d (n.0, n.1) in
      stands (beneath_lower tables q l.0 l.1).1
    where
      stands : {k : ℕ} → Level tables b k → Stands tables b
      stands (level {r = r} e o) = (r, e)

  pub made_same : (entries : List Entry) → Levelled tables → tables t ≡ None → (d : ℕ) → (d ≡ t → ⊥) → SameBelow tables entries (made t r tables) entries d
  made_same entries levels free d apart = record { same_table = λ b q. made_other b (other b q); same_entry = λ e q. ((λ i. i), λ i. i) }
    where
      other : (b : ℕ) → AtOrBeneath tables b d → b ≡ t → ⊥
      other b (inl e) same = apart (sym e ∙ same)
      other b (inr q) same = let st = beneath_stands levels b d q in none-some st.0 (sym free ∙ (ap tables (sym same) ∙ st.1))

  -- the plus or the minus would stand on the new table, where there is no entry
  pub made_clash : (pairs : List Pair) (entries : List Entry) → Levelled tables → tables t ≡ None → ((e : Entry) → In e entries → e.table ≡ t → ⊥) → (s : ℕ) → Clash pairs (made t r tables) entries s → Clash pairs tables entries s
  unfolding Clash StrongPlus StrongMinus Holds
  made_clash pairs entries levels free bare s c = ⊎_elim here elsewhere (cases_eq c.1 t)
    where
      elsewhere : (c.1 ≡ t → ⊥) → Clash pairs tables entries s
      elsewhere apart =
          let same = made_same entries levels free c.1 apart in (
            c.0,
            c.1,
            c.2,
            strong_plus_same pairs (made t r tables) entries tables entries s c.0 c.1 (same_back tables entries (made t r tables) entries c.1 same) c.3,
            ⊎_elim (λ e. inl e) (λ q. inr (beneath_back tables entries (made t r tables) entries q same)) c.4,
            c.5,
          )

      here : c.1 ≡ t → Clash pairs tables entries s
      here same = absurd (⊎_elim (λ h. bare h.0 h.1 (h.2.0 ∙ same)) (λ o. ⊎_elim (λ e. let m = c.5 in bare m.0 m.1 (m.2.0 ∙ (e ∙ same))) (beneath_base (made t r tables) c.2 c.1 o.0) c.4) c.3)

pub made_apart : MadeApart
made_apart pairs tables entries t r levels free bare =
    ((λ d apart. reads_below pairs tables (made t r tables) entries entries d (made_same tables t r entries levels free d apart)), made_clash tables t r pairs entries levels free bare)

pub dropped_apart : DroppedApart
dropped_apart pairs tables entries entries' t unnamed rest d apart = reads_below pairs tables (unmade t tables) entries entries' d
    (record { same_table = λ b q. sym (put_other tables t None b (other b q)); same_entry = λ e q. rest e (other e.table q) })
  where
    other : (b : ℕ) → AtOrBeneath tables b d → b ≡ t → ⊥
    other b (inl e) same = apart (sym e ∙ same)
    other b (inr q) same = let n = beneath_named tables q in unnamed n.0 (subst (Names tables n.0) same n.1)
