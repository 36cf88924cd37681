-- The laws of access, together.
use Rattle.rights.specs.Laws.{AccessLaws}
use Rattle.rights.proofs.Access.{answers_unique, answered, granted_answer, answer_granted}
use Rattle.rights.proofs.Clash.{denied_below, below_denied, clash_denied, denied_clash, clash_grows, clashing_or_not}
use Rattle.rights.proofs.Growing.{strong_stays, made_apart, dropped_apart}
use Rattle.rights.proofs.Reading.{reads_below}
use Rattle.rights.proofs.Tables.{level_unique, beneath_lower, not_beneath_itself}

pub access_laws : AccessLaws
access_laws = record {
  one_answer = λ pairs tables entries u p t. (answers_unique pairs tables entries u p t, λ levels. answered pairs tables entries levels u p t);
  yes_granted = λ pairs tables entries u p t. (granted_answer pairs tables entries, λ h. answer_granted pairs tables entries u p t h.0 h.1);
  reads_below = reads_below;
  clash_denies = λ pairs tables entries bases s. (
    (λ p t. (denied_below pairs tables entries s p t, below_denied pairs tables entries bases s p t)),
    (clash_denied pairs tables entries bases s, λ h. denied_clash pairs tables entries s h.0 h.1 h.2 h.3),
  );
  clash_grows = λ pairs pairs' tables tables' entries entries' more. clash_grows pairs pairs' more.pairs_stay tables tables' more.tables_stay entries entries' more.entries_stay;
  clash_told = clashing_or_not;
  strong_stays = strong_stays;
  made_apart = made_apart;
  dropped_apart = dropped_apart;
  levels_fall = λ tables t n l. ((λ m k. level_unique tables l k), (λ b q. beneath_lower tables q n l), not_beneath_itself tables t n l);
}
