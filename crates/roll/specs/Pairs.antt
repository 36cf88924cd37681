-- A rising list of pairs with a pair more or less: what a put and a take leave.
use Rattle.std.specs.Prelude.{Bool, cond, ◌&&◌, ◌||◌, List, [], ◌∷◌, ◌==◌, nat_lt}
use Rattle.rights.specs.declared.entries.Pair.{Pair}

-- whether p comes before q: by member, then by group
abbrev pub before : Pair → Pair → Bool
before p q = nat_lt p.member q.member || (p.member == q.member && nat_lt p.group q.group)

abbrev pub same : Pair → Pair → Bool
same p q = p.member == q.member && p.group == q.group

-- a rising list with p in its place
unfoldable pub added : Pair → List Pair → List Pair
added p [] = p ∷ []
added p (q ∷ qs) = cond (before p q) (p ∷ q ∷ qs) (q ∷ added p qs)

-- a list without p
unfoldable pub dropped : Pair → List Pair → List Pair
dropped p [] = []
dropped p (q ∷ qs) = cond (same p q) qs (q ∷ dropped p qs)
