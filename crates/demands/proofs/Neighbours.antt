-- Document 02, (iv): leaf entries number the runs, the tree's pages are few by them, and an index that is empty again is one leaf with one
-- entry. Assumes nothing.
use Prim.Native.Nat.{ℕ, zero, suc, ◌+◌, ◌*◌, ◌-◌, ◌≤◌, ◌<◌}
use mathlib.Core.Path.{◌≡◌, refl, sym, ap, ◌∙◌, subst, subst⁻¹}
use mathlib.Core.Logic.{⊎_elim}
use mathlib.Core.Bool.{true, cond}
use mathlib.Core.List.{List, [], ◌∷◌}
use native.Mathlib.Omega.{arith}
use lib.Dec.{eqb}
use lib.ListN.{length}
use borrow.Author.Tests.{eq-eqb}
use Rattle.lists.specs.Lists.{all_none}
use Rattle.lists.proofs.All.{all_head, all_tail}
use Rattle.rule.specs.declared.Pair.{Pair}
use Rattle.rule.specs.Pairs.{combine}
use Rattle.rule.specs.Time.{END}
use Rattle.fields.specs.Bytes.{Bytes}
use Rattle.page.specs.declared.Head.{Head}
use Rattle.page.specs.Fit.{most_height, root_context, fewest}
use Rattle.image.specs.Images.{Image, half_of, image_of}
use Rattle.image.specs.Instant.{look_up}
use Rattle.image.specs.Listing.{Run, neighbours_differ, walk_over}
use Rattle.image.specs.Neighbours.{leaf_entries}
use Rattle.image.specs.Sound.{tree_pages, sound_before, sound}
use Rattle.image.proofs.Runs.{differ_joined}
use Rattle.image.proofs.Tiles.{Tiles, done, more, tiles_le, neighbours_turn}
use Rattle.soundness.proofs.Sound.{the_head, the_tree, sound_facts, sound_parts, sound_old}
use Rattle.soundness.proofs.Entries.{full_entries, apart_number}
use Rattle.tree.specs.Tree.{Tree, pair_at}
use Rattle.tree.specs.Cut.{State}
use Rattle.tree.specs.Shape.{Leaf, Differs, root_least, Distinct}
use Rattle.tree.specs.Runs.{runs_of}
use Rattle.tree.specs.Counts.{pages_of}
use Rattle.tree.proofs.Seg.{le_or_lt}
use Rattle.tree.proofs.Few.{tree_few}
use Rattle.invariant.specs.Invariant.{OwnStructure}
use Rattle.invariant.proofs.From.Load.{state_in}
use Rattle.invariant.proofs.From.Shape.{root_fewest}
use Rattle.invariant.proofs.From.Canonical.{canonical}
use Rattle.invariant.proofs.From.Invariant.{sound_structure, sound_invariant}
use Rattle.invariant.proofs.From.Look.{look_invariant}
use Rattle.invariant.proofs.From.Starts.{started, start_told}
use Rattle.invariant.proofs.From.Runs.{walked_runs}
use Rattle.invariant.proofs.To.Height.{height_most}
use Rattle.invariant.proofs.To.Sound.{tree_found}
use Rattle.calls.specs.Calls.{Instant, head, instant, runs_over, full_runs}
use Rattle.calls.specs.Index.{index_instant}
use Rattle.calls.specs.Changes.{Change}
use Rattle.book.specs.Book.{empty_book, entered_all, book_of, items_pair, book_pair}
use Rattle.claims.specs.Trace.{Trace}
use Rattle.claims.specs.Demands.{SameChanges}
use Rattle.claims.specs.Neighbours.{AsTheRuns, NeighboursJoined}
use Rattle.claims.specs.Until.{HoldsUntil}
use Rattle.answers.proofs.Own.{sound_own, own_instant}
use Rattle.answers.proofs.Sound.{sound_status, sound_pair}
use Rattle.answers.proofs.Until.{until_when}
use Rattle.answers.proofs.Full.{full_tiles}
use Rattle.demands.proofs.Book.Books.{book_same_changes}
use Rattle.demands.proofs.Traces.{Reached, reached, book_kind}

-- ---- of every sound image of kind 1

module _ (half : ℕ) (img : List ℕ) (two : 2 ≤ half) (bytes : Bytes img) (fits : sound half img ≡ true) (kind : (the_head half img).kind ≡ 1) where
  old : sound_before half img ≡ true
  old = sound_old half img fits

  abbrev X : Image
  X = image_of half img

  abbrev Y : State
  Y = state_in half img

  some : 1 ≤ half
  some = omega arith

  structure : OwnStructure half X Y
  structure = sound_structure half img some old

  numbered : leaf_entries half img ≡ length (full_runs half img)
  unfolding full_runs runs_over
  numbered = sym ((apart_number half img old).0 (((sound_parts half img).0 fits).apart (eq-eqb _ 1 kind)))

  -- the tree's pages, and its runs
  pages_are : length (the_tree half img) ≡ length (pages_of Y.tree)
  unfolding pages_of
  pages_are =
      ap (λ i. length (the_tree half i)) (sym (canonical half img some bytes old))
      ∙ ap length (tree_found half X Y some structure (height_most X Y structure two))

  runs_are : length (runs_of (combine (the_head half img).kind) Y.tree) ≡ length (full_runs half img)
  runs_are =
      ap length (sym (walked_runs half img (sound_facts half img old) Y structure.shown))
      ∙ (full_entries half img old ∙ numbered)

  abbrev h : Head
  h = the_head half img

  few_pages : (half - 1) * (length (the_tree half img) - 1) + fewest half (root_context h) ≤ length (full_runs half img)
  unfolding image_of
  few_pages =
      let n : fewest half (root_context h) ≡ root_least Y.tree.level =
      root_fewest half h Y.tree.level (omega (arith, structure.shown.height)) in
      omega (
        arith,
        ap (λ k. (half - 1) * (k - 1)) pages_are,
        n,
        structure.formed.least,
        tree_few half Leaf (combine h.kind) Y.tree some structure.formed,
        runs_are,
      )

  one_run : length (full_runs half img) ≡ 1 → (h.height ≡ 1) × (leaf_entries half img ≡ 1)
  unfolding image_of root_least
  one_run one = (low Y.tree.level structure.shown.height (root_fewest half h Y.tree.level (omega (arith, structure.shown.height))), numbered ∙ one)
    where
      low : (l : ℕ) → h.height ≡ suc l → fewest half (root_context h) ≡ root_least l → h.height ≡ 1
      low zero e n = e
      low (suc l) e n = absurd (omega (arith, few_pages, one))

  -- ---- an instant's start and end are its run's

  distinct : Distinct half (combine h.kind) Y.tree
  unfolding image_of
  distinct = (sound_invariant half img some fits).distinct (eq-eqb _ 1 kind)

  found : (u : ℕ) → (look_up half img u).pair ≡ pair_at (combine h.kind) Y.tree u
  found u = (look_invariant half img some (sound_facts half img old) Y structure.shown u).looked.pair

  -- the answer turns where a leaf entry starts
  turns : (t : ℕ) → t < END → let s = (look_up half img t).start in 0 < s → (look_up half img s).pair ≡ (look_up half img (s - 1)).pair → ⊥
  unfolding Distinct
  turns t below later same =
      let s : ℕ = (look_up half img t).start in
      let e = start_told half img some (sound_facts half img old) Y structure.shown t in
      let turn = subst⁻¹ (λ z. Differs (pair_at (combine h.kind) Y.tree) z) e
      (started half (Differs (pair_at (combine h.kind) Y.tree)) Y.tree.level t distinct.spans (omega arith) below) in
      turn later (sym (found s) ∙ (same ∙ found (s - 1)))

  own : (u : ℕ) → index_instant u img ≡ instant half u img
  own u = own_instant (sound_own half img old) u

  answered : (u : ℕ) → u < END → (index_instant u img).status ≡ 0
  answered u l = ap (λ (a : Instant). a.status) (own u) ∙ sound_status half img old u l

  pair_is : (u : ℕ) → u < END → (index_instant u img).pair ≡ (look_up half img u).pair
  pair_is u l = ap (λ (a : Instant). a.pair) (own u) ∙ sound_pair half img old u l

  start_is : (u : ℕ) → u < END → (index_instant u img).start ≡ (look_up half img u).start
  unfolding instant
  start_is u l =
      ap (λ (a : Instant). a.start) (own u) ∙ ap (λ n. cond (eqb n 0) (look_up half img u).start 0) (sound_status half img old u l)

  module _ (t : ℕ) (below : t < END) where
    abbrev a : Instant
    a = index_instant t img

    holds : HoldsUntil t img a
    holds = until_when.holds t img (answered t below)

    -- at the start, where it isn't 0
    turned : (s : ℕ) → s < END → a.start ≡ s → 0 < s → (index_instant (s - 1) img).pair ≡ a.pair → ⊥
    turned s high e later same =
        turns t below (omega (arith, start_is t below)) (subst (λ z. (look_up half img z).pair ≡ (look_up half img (z - 1)).pair)
        (sym e ∙ start_is t below)
        (sym (pair_is s high)
        ∙ (ap (λ (b : Instant). b.pair) (holds.same s (omega arith) (omega (arith, holds.before_end, holds.begun)))
        ∙ (sym same ∙ pair_is (s - 1) (omega arith)))))

  run_told : (t : ℕ) → t < END → let b = index_instant t img in
      (0 < b.start → (index_instant (b.start - 1) img).pair ≡ b.pair → ⊥)
      × (b.end < END → (index_instant b.end img).pair ≡ b.pair → ⊥)
  run_told t below = (turned t below (index_instant t img).start (omega (arith, (holds t below).begun)) refl, next)
    where
      next : (index_instant t img).end < END → (index_instant (index_instant t img).end img).pair ≡ (index_instant t img).pair → ⊥
      next high same =
          let e : ℕ = (index_instant t img).end in
          let here = holds t below in
          let there = holds e high in
          let last : index_instant (e - 1) img ≡ index_instant t img =
          here.same (e - 1) (omega (arith, here.begun, here.before_end)) (omega (arith, here.before_end)) in
          let begins : (index_instant e img).start ≡ e =
          ⊎_elim (λ (k : e ≤ (index_instant e img).start). omega (arith, there.begun, k))
          (λ (k : (index_instant e img).start < e).
          let over : index_instant (e - 1) img ≡ index_instant e img =
          there.same (e - 1) (omega arith) (omega (arith, there.before_end)) in
          let ends : e ≡ (index_instant e img).end = ap (λ (b : Instant). b.end) (sym last ∙ over) in
          absurd (omega (arith, there.before_end, ends)))
          (le_or_lt e (index_instant e img).start) in
          turned e high e high begins (omega (arith, here.before_end)) (ap (λ (b : Instant). b.pair) last ∙ sym same)

  as_the_runs : AsTheRuns half img
  unfolding head
  as_the_runs = record { numbered = numbered; few_pages = few_pages; run_told = run_told; one_run = one_run }

-- ---- an index that is empty again

-- runs that differ from their neighbours, of instants that all answer the same
one_answer : (f : ℕ → Pair) (q : Pair) {b : ℕ} {rs : List Run} → Tiles (λ t p. f t ≡ p) 0 b rs → 0 < b → neighbours_differ rs ≡ true
    → ((t : ℕ) → t < b → f t ≡ q) → length rs ≡ 1
one_answer f q done some e same = absurd (omega arith)
one_answer f q (more s l w done) some e same = refl
one_answer f q (more s l w (more {a = m} {m = n} {b = b} {r = r} s' l' w' u)) some e same =
    let turns = all_head (all_tail ((neighbours_turn f (more s l w (more s' l' w' u))).0 e)) in
    let k = tiles_le u in
    absurd (turns (omega arith) (subst (λ z. f z ≡ f (z - 1)) (sym s') (same m (omega arith) ∙ sym (same (m - 1) (omega arith)))))

module _ {window field : ℕ} {img : List ℕ} {cs : List Change} (R : Reached 1 window field img cs) (S : SameChanges cs []) where
  abbrev half : ℕ
  half = R.half

  empty : (half_of img ≡ half) × (2 ≤ half)
  empty =
      let own = (sound_own half img (sound_old half img R.kept.sound)).named in
      (own.is, own.least)

  one : length (full_runs half img) ≡ 1
  unfolding full_runs runs_over book_of entered_all empty_book book_pair items_pair
  one =
      let old = sound_old half img R.kept.sound in
      one_answer (λ t. (look_up half img t).pair) (book_pair (book_of 1 window []) 0) (full_tiles half img old) (omega arith)
      (differ_joined (walk_over half img 0 END).runs)
      (λ t l. R.kept.pairs t l ∙ (book_same_changes 1 window t S R.sided all_none ∙ nothing t))
    where
      nothing : (t : ℕ) → book_pair (book_of 1 window []) t ≡ book_pair (book_of 1 window []) 0
      nothing t = refl

  again : ((head (half_of img) img).height ≡ 1) × (leaf_entries (half_of img) img ≡ 1)
  unfolding head
  again =
      subst (λ k. ((head k img).height ≡ 1) × (leaf_entries k img ≡ 1)) (sym empty.0)
      (one_run half img empty.1 R.kept.bytes R.kept.sound (R.kept.kind ∙ book_kind 1 window cs) one)

pub neighbours_joined : NeighboursJoined
unfolding head
neighbours_joined =
    record {
      of_sound = λ img b s k.
          as_the_runs (half_of img) img (sound_own (half_of img) img (sound_old (half_of img) img s)).named.least b s k;
      empty_again = λ T S. again (reached T) S;
    }
