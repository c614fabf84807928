-- The walk from the root: what it is, and that its runs can be counted. Assumes nothing.
use Rattle.std.specs.Prelude.{Some, None}
use mathlib.Core.Path.{◌≡◌, ap, ◌∙◌}
use mathlib.Core.Bool.{Bool, true, false}
use mathlib.Core.List.{List}
use Prim.Native.Nat.{ℕ, ◌*◌, ◌-◌, ◌≤◌}
use native.Mathlib.Nat.{mul-le-mul_left}
use native.Mathlib.Omega.{arith}
use lib.ListN.{length}
use Rattle.lists.specs.Lists.{concat_map}
use Rattle.fields.specs.Bytes.{patch}
use Rattle.page.specs.declared.Head.{Head}
use Rattle.page.specs.Layout.{capacity}
use Rattle.page.specs.Fit.{root_context}
use Rattle.image.specs.Images.{pages_in}
use Rattle.image.specs.Listing as image
use Rattle.image.specs.Listing.{walk, walk_over, run_bytes, join}
use Rattle.image.proofs.Sizes.{sized}
use Rattle.soundness.proofs.Runs.{walked_few}
use Rattle.access.specs.Access.{OpenImage}
use Rattle.runs.specs.declared.Run.{Run}
use Rattle.runs.specs.Open.{no_run}
use Rattle.runs.proofs.Laws.Entries.{written_join, output_join}
use Rattle.listing.specs.declared.SpanQuery.{SpanQuery}
use Rattle.listing.specs.Walks.{page_walk, root_cursor, answer, output, count, Room}
use Rattle.listing.proofs.Laws.Turns.{room_unwritten, of_answer, of_unfit}
use Rattle.listing.proofs.Laws.Pages.{under_none}

-- ---- from the root is from the root's cursor, with no pair above

pub root_walk : {img : List ℕ} (q : SpanQuery) → OpenImage q.half img q.head
    → page_walk img q (root_cursor q.head) ≡ walk_over q.half img q.a q.b
unfolding page_walk walk_over root_context
root_walk {img} q h =
    under_none q.head.kind _
    ∙ ap (λ (k : Head). walk q.half k img q.a q.b (k.height - 1) (root_context k) k.root) h.shown

pub over_few : {half : ℕ} {img : List ℕ} {h : Head} (a b : ℕ) → half ≤ 12 → OpenImage half img h
    → length (walk_over half img a b).runs ≤ 24 * 1023
over_few {half} {img} a b most o =
    let z = sized half img o.whole in
    let few : capacity half * (pages_in half img - 1) ≤ capacity half * 1023 = mul-le-mul_left (capacity half) (omega (arith, z.most)) in
    omega (arith, walked_few half a b img o.fit, few)

-- ---- the two passes

module _ {half : ℕ} {img : List ℕ} {h : Head} (a b : ℕ) (out : List ℕ) (most : half ≤ 12) (headed : OpenImage half img h) where
  pub room_counting : {known : Bool} → (known ≡ true → (walk_over half img a b).fit ≡ true)
      → Room known false no_run (walk_over half img a b) out
  room_counting fit = room_unwritten (omega (arith, over_few a b most headed)) fit

  pub room_writing : (walk_over half img a b).fit ≡ true → 16 * length (join (walk_over half img a b).runs) ≤ length out
      → Room true true no_run (walk_over half img a b) out
  room_writing fit room =
      record {
        few = omega (arith, over_few a b most headed);
        fit = λ _. fit;
        checked = λ e. e;
        room = λ _. omega (arith, written_join (walk_over half img a b).runs);
      }

module _ (w : image.Walked) where
  pub count_unfit : None ≡ answer no_run w → None ≡ count w
  unfolding count
  count_unfit e = rw (of_unfit no_run w e)

  pub count_fit : {last : Run} → Some last ≡ answer no_run w → Some last.written ≡ count w
  unfolding count
  count_fit {last} e =
      let f = of_answer no_run w e in
      rw f.0 (ap Some (ap (λ (r : Run). r.written) f.1 ∙ written_join w.runs))

  pub output_all : (out : List ℕ) → 16 * length (join w.runs) ≤ length out
      → output true no_run w out ≡ patch out 0 (concat_map run_bytes (join w.runs))
  unfolding output
  output_all out room = output_join w.runs out room
