-- One level of a tight tree: what holds of the entries of a level holds of those of the level above. Assumes nothing.
use Prim.Native.Nat.{ℕ, zero, suc, ◌+◌, ◌≤◌, ◌<◌}
use mathlib.Core.Path.{◌≡◌, refl, sym, ap, ◌∙◌, subst}
use mathlib.Core.Logic.{⊎_elim}
use mathlib.Core.List.{List, [], ◌∷◌}
use native.Mathlib.Omega.{arith}
use lib.ListN.{length, take, drop, length-map, drop_of_length-le}
use lib.Seq.{drop-drop}
use Rattle.lists.specs.Lists.{listed, total, hit}
use Rattle.lists.proofs.Listed.{listed_same}
use Rattle.lists.proofs.Totals.{from, total_from}
use Rattle.rule.specs.declared.Pair.{Pair}
use Rattle.rule.specs.Pairs.{none}
use Rattle.page.specs.declared.Entry.{Entry}
use Rattle.page.specs.Entries.{entry, at}
use Rattle.tight.specs.Tight.{pages_for, page_entries, entries_before, in_page, entries_above}
use Rattle.tight.proofs.Pages.{page_most, page_least, before_all}
use Rattle.tight.proofs.Levels.{in_page_more, in_page_all, length_in_page, map_in_page}
use Rattle.tree.specs.Tree.{Node, Subtree, Nodes, flat, pair_under, pair_in}
use Rattle.tree.specs.Shape.{Asked, Seg, done, Filled, Shaped, Leaf}
use Rattle.tree.specs.Conserved.{times_below}
use Rattle.tree.proofs.Seg.{le_or_lt, from_yes, from_no, seg_part, seg_lt, seg_one, seg_head, seg_append}
use Rattle.tree.proofs.Look.{look, look_append, look_early, pair_in_look}
use Rattle.refinement.proofs.Below.{below_none, below_append, below_one, under_suc}
use Rattle.tightness.specs.State.{page_node, nodes_above}
use Rattle.lists.proofs.Edits.{map_listed}

-- ---- an entry without a pair

module _ (◌⊕◌ : Pair → Pair → Pair) (unit : (p : Pair) → ◌⊕◌ none p ≡ p) (l : ℕ) where
  infixl 60 ◌⊕◌
  -- it answers what the entries below it answer
  pub look_through : {Q : Asked (Subtree l)} {lo hi : ℕ} (x : Node (Subtree (suc l))) (u : ℕ) (d : Pair) → x.entry.pair ≡ none
      → x.entry.start ≡ lo → lo < hi → Seg Q lo hi x.subtree
      → look (pair_under ◌⊕◌ (suc l) u) u d (x ∷ []) ≡ look (pair_under ◌⊕◌ l u) u d x.subtree
  unfolding look pair_under pair_in
  look_through x u d pairless at_lo lt s =
      ⊎_elim
      (λ (late : x.entry.start ≤ u).
      from_yes (pair_under ◌⊕◌ (suc l) u x) d late
      ∙ (ap (λ z. z ⊕ pair_in ◌⊕◌ l u x.subtree) pairless
      ∙ (unit (pair_in ◌⊕◌ l u x.subtree) ∙ pair_in_look ◌⊕◌ l u d s lt (omega arith))))
      (λ early. from_no (pair_under ◌⊕◌ (suc l) u x) d early ∙ sym (look_early (pair_under ◌⊕◌ l u) u d s (omega arith)))
      (le_or_lt x.entry.start u)

-- ---- the pages of a level

module _ (half first l : ℕ) (ns : Nodes l) where
  abbrev count : ℕ
  count = pages_for half (length ns)

  abbrev before : ℕ → ℕ
  before i = entries_before (length ns) count i

  abbrev node : ℕ → Node (Subtree (suc l))
  node i = page_node half first ns i

  -- the entries as the pages hold them
  pub flat_above : flat (nodes_above half first ns) ≡ entries_above half first (flat ns)
  unfolding nodes_above page_node entries_above
  flat_above =
      let above : List Entry → ℕ → Entry = λ es i. entry (at es 0).start none (first + i) in
      map_listed (λ (x : Node (Subtree (suc l))). x.entry) count node
      ∙ listed_same count _ _ (λ i lt. ap (λ es. above es i) (map_in_page (λ x. x.entry) half ns i))
      ∙ ap (λ m. listed (pages_for half m) (λ i. above (in_page half (flat ns) i) i)) (sym (length-map ns (λ x. x.entry)))

  -- how often a page is below the first i entries
  below_first : (q i : ℕ)
      → times_below (suc l) q (listed i node) ≡ total i (λ j. hit q (first + j)) + times_below l q (take (before i) ns)
  unfolding listed total entries_before page_node
  below_first q zero = omega (arith, below_none (suc l) q, below_none l q)
  below_first q (suc i) =
      omega (
        arith,
        below_first q i,
        below_append (suc l) q (listed i node) (node i ∷ []),
        below_one (suc l) q (node i),
        under_suc l q (node i),
        ap (times_below l q) (in_page_more half ns i),
        below_append l q (take (before i) ns) (in_page half ns i),
      )

  -- the first i entries: their spans, what they answer, and the entries of the pages that are left
  record Built (lo hi i : ℕ) : Type 0 where
    mid : ℕ
    front : Seg (Shaped half Leaf (suc l)) lo mid (listed i node)
    rest : Seg (Shaped half Leaf l) mid hi (drop (before i) ns)
    answers : (◌⊕◌ : Pair → Pair → Pair) → ((p : Pair) → ◌⊕◌ none p ≡ p) → (u : ℕ) (d : Pair)
        → look (pair_under ◌⊕◌ (suc l) u) u d (listed i node) ≡ look (pair_under ◌⊕◌ l u) u d (take (before i) ns)

  module _ (some : 1 ≤ half) (one : 1 ≤ length ns) where
    pub below_above : (q : ℕ)
        → times_below (suc l) q (nodes_above half first ns) + from (first + count) q ≡ times_below l q ns + from first q
    unfolding nodes_above
    below_above q =
        omega (arith, below_first q count, ap (times_below l q) (in_page_all half ns some one), total_from q first count)

    filled : 2 ≤ count → (i : ℕ) → i < count → Filled half (in_page half ns i)
    filled two i lt =
        let n : length (in_page half ns i) ≡ page_entries (length ns) count i = length_in_page half ns i some lt in
        record {
          least = omega (arith, page_least half (length ns) some one two i);
          most = omega (arith, page_most half (length ns) some one i);
        }

    -- one page more
    next : {lo hi i : ℕ} → 2 ≤ count → i < count → Built lo hi i → Built lo hi (suc i)
    unfolding listed entries_before total in_page Shaped page_node
    next {hi = hi} {i = i} two lt w =
        let k : ℕ = page_entries (length ns) count i in
        let s = seg_part k w.rest in
        let full : Filled half (in_page half ns i) = filled two i lt in
        let rises : w.mid < s.mid = seg_lt s.front (omega (arith, full.least)) in
        let start : (node i).entry.start ≡ w.mid = seg_head s.front rises in
        record {
          mid = s.mid;
          front = seg_append w.front (seg_one start rises (full, s.front));
          rest = subst (λ es. Seg (Shaped half Leaf l) s.mid hi es) (drop-drop k (before i) ns) s.back;
          answers =
              λ ◌⊕◌ unit u d.
              let F : Node (Subtree l) → Pair = pair_under ◌⊕◌ l u in
              let G : Node (Subtree (suc l)) → Pair = pair_under ◌⊕◌ (suc l) u in
              look_append G u d (listed i node) (node i ∷ [])
              ∙ look_through ◌⊕◌ unit l (node i) u (look G u d (listed i node)) refl start rises s.front
              ∙ ap (λ z. look F u z (in_page half ns i)) (w.answers ◌⊕◌ unit u d)
              ∙ sym (look_append F u d (take (before i) ns) (in_page half ns i))
              ∙ sym (ap (look F u d) (in_page_more half ns i));
        }

    built : {lo hi : ℕ} → 2 ≤ count → Seg (Shaped half Leaf l) lo hi ns → (i : ℕ) → i ≤ count → Built lo hi i
    unfolding listed entries_before total look
    built {lo} two s zero le = record { mid = lo; front = done; rest = s; answers = λ ◌⊕◌ unit u d. refl }
    built two s (suc i) le = next two (omega arith) (built two s i (omega arith))

    pub spans_above : {lo hi : ℕ} → 2 ≤ count → Seg (Shaped half Leaf l) lo hi ns
        → Seg (Shaped half Leaf (suc l)) lo hi (nodes_above half first ns)
    unfolding nodes_above
    spans_above {lo} {hi} two s =
        let w : Built lo hi count = built two s count (omega arith) in
        let none_left : drop (before count) ns ≡ [] =
        drop_of_length-le ns {i = before count} (omega (arith, before_all (length ns) count (omega arith))) in
        let last : w.mid ≡ hi = ends (subst (λ es. Seg (Shaped half Leaf l) w.mid hi es) none_left w.rest) in
        subst (λ z. Seg (Shaped half Leaf (suc l)) lo z (listed count node)) last w.front
      where
        ends : {a b : ℕ} → Seg (Shaped half Leaf l) a b [] → a ≡ b
        ends done = refl

    pub answers_above : {lo hi : ℕ} (◌⊕◌ : Pair → Pair → Pair) → ((p : Pair) → ◌⊕◌ none p ≡ p) → 2 ≤ count
        → Seg (Shaped half Leaf l) lo hi ns → (u : ℕ) (d : Pair)
        → look (pair_under ◌⊕◌ (suc l) u) u d (nodes_above half first ns) ≡ look (pair_under ◌⊕◌ l u) u d ns
    unfolding nodes_above
    answers_above ◌⊕◌ unit two s u d =
        (built two s count (omega arith)).answers ◌⊕◌ unit u d ∙ ap (look (pair_under ◌⊕◌ l u) u d) (in_page_all half ns some one)
