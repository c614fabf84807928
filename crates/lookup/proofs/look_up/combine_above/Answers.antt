-- `lookup::look_up::combine_above` meets its contract: by what was found below. Assumes nothing.
use Rattle.std.proofs.Common.{◌≡◌, ℕ, Some, None, Option, refl, rules, arith}
use Rattle.rule.specs.declared.Pair.{Pair}
use Rattle.rule.specs.Pairs.{combine}
use Rattle.rule.specs.Bounds.{Combinable}
use Rattle.lookup.specs.declared.Holding.{Holding}
use Rattle.lookup.specs.declared.LookupAnswer.{LookupAnswer}
use Rattle.lookup.specs.Answers.{found_after, lookup_of, CombinableAbove}
use Rattle.lookup.proofs.Laws.Walks.{above_found, found_above}
use Rattle.lookup.proofs.look_up.combine_above.Goals as goal

found_combinable : {p : Pair} {r : LookupAnswer} {x : Holding} → CombinableAbove p r → r.found ≡ Some x → Combinable p x.pair
unfolding lookup_of
found_combinable ok e = (rw e at ok.pairs) refl

pages_of : (o : Option Holding) (n : ℕ) → (found_after o n).pages ≡ n
pages_of (Some x) n = refl
pages_of None n = refl

pub map-requires : goal.map-requires
map-requires c x is =
    let ok : Combinable c.args.pair x.pair = found_combinable c.requires is in
    search rules

pub overflow_add-result : goal.overflow_add-result
unfolding lookup_of
overflow_add-result c = omega (arith, c.requires.pages, pages_of c.args.below.found c.args.below.pages)

pub returns : goal.returns
unfolding lookup_of
returns c =
    let below = c.args.below in
    let is : c.map.result ≡ above_found (combine c.args.kind) c.args.pair below.found = search rules in
    rw is (found_above (combine c.args.kind) c.args.pair below.found below.pages)
