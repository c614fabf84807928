-- What the code finds below a page is what a walk over all instants finds there, as far as neighbours go: runs one behind another, then an
-- entry's pair over all of them, by the level. And the totals that it hands up can be added. Assumes nothing.
use mathlib.Core.Path.{◌≡◌, refl, sym, ap, ap₂, ◌∙◌, subst⁻¹}
use mathlib.Core.Bool.{true, not, ◌&&◌, and-true}
use mathlib.Core.List.{List, [], ◌∷◌, ◌++◌}
use Prim.Native.Nat.{ℕ, zero, suc, ◌-◌, ◌≤◌, ◌<◌}
use native.Mathlib.Omega.{arith}
use Rattle.rule.specs.declared.Pair.{Pair}
use Rattle.rule.specs.Pairs.{same_pair, combine}
use Rattle.rule.specs.Time.{END}
use Rattle.fields.specs.Bytes.{every}
use Rattle.page.specs.declared.Head.{Head}
use Rattle.page.specs.Layout.{entry_count, start_at, pair_at, child_at}
use Rattle.page.specs.Fit.{PageContext, root_context, context_below}
use Rattle.fit.proofs.Laws.Pages.{Paired, entry_first}
use Rattle.image.specs.Images.{page_at}
use Rattle.image.specs.Sound.{tree_fit, sound_before}
use Rattle.image.specs.Listing.{Run, Walked, nothing, then, in_turn, under, leaf_run, walk, walk_over, differ_after, neighbours_differ}
use Rattle.image.specs.Neighbours.{neighbours_apart}
use Rattle.image.proofs.Runs.{pair_after, pair_after_append, differ_append, totals, pair_after_totals, differ_totals}
use Rattle.soundness.proofs.Sound.{the_head, sound_facts}
use Rattle.soundness.proofs.Tree.{tree_parts, tree_top}
use Rattle.soundness.proofs.Entries.{entry_within, leaf_walked, inner_walked}
use Rattle.lookup.proofs.Laws.Bounds.{combined_paired}
use Rattle.neighbours.specs.declared.Edges.{Edges}
use Rattle.neighbours.specs.Edges.{joined, under_pair, in_row, next_differs, leaf_edges, page_edges}

-- ---- runs and their edges

-- there is a run, and e has of the runs whether neighbours differ, the first pair and the last
pub record Finds (rs : List Run) (e : Edges) : Type 0 where
  pub head : Run
  pub rest : List Run
  pub all : rs ≡ head ∷ rest
  pub first : head.pair ≡ e.first
  pub last : pair_after head.pair rest ≡ e.last
  pub apart : differ_after head.pair rest ≡ e.apart

pub finds_apart : {rs : List Run} {e : Edges} → Finds rs e → neighbours_differ rs ≡ e.apart
unfolding neighbours_differ
finds_apart f = ap neighbours_differ f.all ∙ f.apart

-- a leaf entry's own run
finds_one : (r : Run) → Finds (r ∷ []) (record { apart = true; first = r.pair; last = r.pair })
unfolding pair_after differ_after
finds_one r = record { head = r; rest = []; all = refl; first = refl; last = refl; apart = refl }

-- runs one behind another
finds_joined : {rs qs : List Run} {a b : Edges} → Finds rs a → Finds qs b → Finds (rs ++ qs) (joined a b)
unfolding joined pair_after differ_after
finds_joined {rs} {qs} {a} {b} f g =
    record {
      head = f.head;
      rest = f.rest ++ qs;
      all = ap (λ z. z ++ qs) f.all;
      first = f.first;
      last =
          pair_after_append f.head.pair f.rest qs
          ∙ ap (pair_after (pair_after f.head.pair f.rest)) g.all
          ∙ g.last;
      apart =
          differ_append f.head.pair f.rest qs
          ∙ ap₂ ◌&&◌ f.apart
          (ap₂ differ_after f.last g.all
          ∙ ap₂ ◌&&◌ (ap (λ p. not (same_pair a.last p)) g.first) g.apart);
    }

-- an entry's pair over all of them
finds_under : (p : Pair) {rs : List Run} {e : Edges} → Finds rs e → Finds (totals p rs) (under_pair p e)
unfolding under_pair
finds_under p {rs} {e} f =
    record {
      head = record { start = f.head.start; pair = combine 1 p f.head.pair };
      rest = totals p f.rest;
      all = ap (totals p) f.all;
      first = ap (combine 1 p) f.first;
      last = pair_after_totals p f.head.pair f.rest ∙ ap (combine 1 p) f.last;
      apart = differ_totals p f.head.pair f.rest ∙ f.apart;
    }

-- parts in turn
finds_row : (n : ℕ) (w : ℕ → Walked) (f : ℕ → Edges) → ((i : ℕ) → i ≤ n → Finds (w i).runs (f i))
    → Finds (in_turn (suc n) w).runs (in_row n f)
unfolding in_turn then nothing in_row
finds_row zero w f each = each 0 (omega arith)
finds_row (suc n) w f each = finds_joined (finds_row n w f (λ i l. each i (omega arith))) (each (suc n) (omega arith))

-- the entries of a leaf
own_row : (half : ℕ) (s : List ℕ) (n : ℕ)
    → in_row n (λ i. record { apart = true; first = pair_at half s i; last = pair_at half s i })
    ≡ record { apart = every n (λ i. next_differs half s i); first = pair_at half s 0; last = pair_at half s n }
unfolding in_row joined every
own_row half s zero = refl
own_row half s (suc n) =
    ap (λ (e : Edges). joined e (record { apart = true; first = pair_at half s (suc n); last = pair_at half s (suc n) })) (own_row half s n)
    ∙ ap (λ t. record { apart = every n (λ i. next_differs half s i) && t; first = pair_at half s 0; last = pair_at half s (suc n) })
    (and-true (next_differs half s n))

-- ---- by the level

module _ (half : ℕ) (h : Head) (img : List ℕ) (some : 1 ≤ half) (kind : h.kind ≡ 1) where
  pub walk_finds : (l : ℕ) (at : PageContext) (p : ℕ) → at.hi ≤ END → tree_fit half h img l at p ≡ true
      → Finds (walk half h img 0 END l at p).runs (page_edges half img l p)
  unfolding page_edges leaf_edges leaf_run under
  walk_finds zero at p within t =
      let s : List ℕ = page_at half img p in
      let fit = tree_top half h img 0 at p t in
      let n : entry_count s ≡ suc (entry_count s - 1) = omega (arith, entry_first fit some) in
      let w : ℕ → Walked = λ i. leaf_run 0 (start_at s i) (pair_at half s i) in
      subst⁻¹ (λ rs. Finds rs (leaf_edges half s))
      (ap (λ (v : Walked). v.runs) (leaf_walked half h img at p fit within ∙ ap (λ k. in_turn k w) n))
      (subst⁻¹ (Finds (in_turn (suc (entry_count s - 1)) w).runs) (sym (own_row half s (entry_count s - 1)))
      (finds_row (entry_count s - 1) w (λ i. record { apart = true; first = pair_at half s i; last = pair_at half s i })
      (λ i m. finds_one _)))
  walk_finds (suc l) at p within t =
      let s : List ℕ = page_at half img p in
      let parts = tree_parts half h img l at p t in
      let n : entry_count s ≡ suc (entry_count s - 1) = omega (arith, entry_first parts.0 some) in
      let below : ℕ → Walked = λ i. walk half h img 0 END l (context_below half s at i) (child_at half s i) in
      let w : ℕ → Walked = λ i. under (combine h.kind) (pair_at half s i) (below i) in
      let edges : ℕ → Edges = λ i. under_pair (pair_at half s i) (page_edges half img l (child_at half s i)) in
      subst⁻¹ (λ rs. Finds rs (page_edges half img (suc l) p))
      (ap (λ (v : Walked). v.runs) (inner_walked half h img l at p parts.0 within ∙ ap (λ k. in_turn k w) n))
      (finds_row (entry_count s - 1) w edges
      (λ i m.
      let lt : i < entry_count s = omega arith in
      subst⁻¹ (λ k. Finds (under (combine k) (pair_at half s i) (below i)).runs (edges i)) kind
      (finds_under (pair_at half s i)
      (walk_finds l (context_below half s at i) (child_at half s i) (entry_within parts.0 within i lt) (parts.1 i lt)))))

-- from the root of a sound-before image
pub apart_found : (half : ℕ) (img : List ℕ) → 1 ≤ half → sound_before half img ≡ true → (the_head half img).kind ≡ 1
    → (page_edges half img ((the_head half img).height - 1) (the_head half img).root).apart ≡ neighbours_apart half img
unfolding neighbours_apart walk_over root_context
apart_found half img some e kind =
    let h : Head = the_head half img in
    sym (finds_apart
    (walk_finds half h img some kind (h.height - 1) (root_context h) h.root (omega arith) (sound_facts half img e).fit.tree))

-- ---- the totals are in the bounds of the page's context

row_first : (n : ℕ) (f : ℕ → Edges) → (in_row n f).first ≡ (f 0).first
unfolding in_row joined
row_first zero f = refl
row_first (suc n) f = row_first n f

row_last : (n : ℕ) (f : ℕ → Edges) → (in_row n f).last ≡ (f n).last
unfolding in_row joined
row_last zero f = refl
row_last (suc n) f = refl

-- the first and the last total may stand in a page of that context
pub record EndsPaired (h : Head) (at : PageContext) (e : Edges) : Type 0 where
  pub first : Paired h at e.first
  pub last : Paired h at e.last

module _ (half : ℕ) (h : Head) (img : List ℕ) (some : 1 ≤ half) (kind : h.kind ≡ 1) where
  paired_under : (at : PageContext) (s : List ℕ) (i : ℕ) (q : Pair) → Paired h at (pair_at half s i)
      → Paired h (context_below half s at i) q → Paired h at (combine 1 (pair_at half s i) q)
  unfolding context_below
  paired_under at s i q a b = subst⁻¹ (λ k. Paired h at (combine k (pair_at half s i) q)) (sym kind) (combined_paired a b)

  pub ends_paired : (l : ℕ) (at : PageContext) (p : ℕ) → tree_fit half h img l at p ≡ true → EndsPaired h at (page_edges half img l p)
  unfolding page_edges leaf_edges under_pair
  ends_paired zero at p t =
      let fit = tree_top half h img 0 at p t in
      record {
        first = fit.pairs 0 (omega (arith, entry_first fit some));
        last = fit.pairs _ (omega (arith, entry_first fit some));
      }
  ends_paired (suc l) at p t =
      let s : List ℕ = page_at half img p in
      let parts = tree_parts half h img l at p t in
      let n : ℕ = entry_count s - 1 in
      let f : ℕ → Edges = λ i. under_pair (pair_at half s i) (page_edges half img l (child_at half s i)) in
      let z : 0 < entry_count s = omega (arith, entry_first parts.0 some) in
      let m : n < entry_count s = omega arith in
      let low = ends_paired l (context_below half s at 0) (child_at half s 0) (parts.1 0 z) in
      let high = ends_paired l (context_below half s at n) (child_at half s n) (parts.1 n m) in
      record {
        first = subst⁻¹ (Paired h at) (row_first n f) (paired_under at s 0 _ (parts.0.pairs 0 z) low.first);
        last = subst⁻¹ (Paired h at) (row_last n f) (paired_under at s n _ (parts.0.pairs n m) high.last);
      }
