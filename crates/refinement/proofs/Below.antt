-- How often a page is below a list of entries: below its parts, with others in the place of some, and below one. Assumes nothing.
use Prim.Native.Nat.{ℕ, zero, suc, ◌+◌, ◌<◌}
use mathlib.Core.Path.{◌≡◌, refl, sym, ap, ◌∙◌}
use mathlib.Core.List.{[], ◌∷◌, ◌++◌}
use native.Mathlib.Omega.{arith}
use lib.ListN.{length, take, drop, get_or, take-append-drop}
use lib.Seq.{split_at, drop-cons}
use Rattle.lists.specs.Lists.{concat_map, splice, hit, times}
use Rattle.lists.proofs.Edits.{splice_two}
use Rattle.lists.proofs.Times.{times_append}
use Rattle.tree.specs.Tree.{Node, Subtree, Nodes, no_node, pages_under}
use Rattle.tree.specs.Conserved.{times_below}

-- the i-th entry with what is below it
abbrev pub node_at : (l : ℕ) → Nodes l → ℕ → Node (Subtree l)
node_at l es i = get_or es i (no_node l)

pub under_zero : (q : ℕ) (x : Node (Subtree zero)) → times q (pages_under zero x) ≡ 0
unfolding times pages_under
under_zero q x = refl

module _ (l q : ℕ) where
  pub below_none : times_below l q [] ≡ 0
  unfolding times_below concat_map times
  below_none = refl

  pub below_cons : (x : Node (Subtree l)) (es : Nodes l) → times_below l q (x ∷ es) ≡ times q (pages_under l x) + times_below l q es
  unfolding times_below concat_map
  below_cons x es = times_append q (pages_under l x) (concat_map (λ y. pages_under l y) es)

  pub under_suc : (x : Node (Subtree (suc l))) → times q (pages_under (suc l) x) ≡ hit q x.entry.child + times_below l q x.subtree
  unfolding times_below pages_under times
  under_suc x = refl

  pub below_one : (x : Node (Subtree l)) → times_below l q (x ∷ []) ≡ times q (pages_under l x)
  below_one x = omega (arith, below_cons x [], below_none)

  pub below_append : (xs ys : Nodes l) → times_below l q (xs ++ ys) ≡ times_below l q xs + times_below l q ys
  below_append [] ys = omega (arith, below_none)
  below_append (x ∷ xs) ys =
      let r : times_below l q (xs ++ ys) ≡ times_below l q xs + times_below l q ys = below_append xs ys in
      omega (arith, below_cons x (xs ++ ys), below_cons x xs)

  pub below_halves : (i : ℕ) (es : Nodes l) → times_below l q es ≡ times_below l q (take i es) + times_below l q (drop i es)
  below_halves i es =
      ap (λ r. times_below l q r) (sym (take-append-drop i es)) ∙ below_append (take i es) (drop i es)

  pub below_at : (i : ℕ) (es : Nodes l) → i < length es
      → times_below l q es ≡ times_below l q (take i es) + (times q (pages_under l (node_at l es i)) + times_below l q (drop (suc i) es))
  below_at i es h =
      ap (λ r. times_below l q r) (split_at es i (no_node l) h)
      ∙ below_append (take i es) (node_at l es i ∷ drop (suc i) es)
      ∙ ap (λ (n : ℕ). times_below l q (take i es) + n) (below_cons (node_at l es i) (drop (suc i) es))

  pub below_splice : (i : ℕ) (zs es : Nodes l)
      → times_below l q (splice i zs es) ≡ times_below l q (take i es) + (times_below l q zs + times_below l q (drop (suc i) es))
  unfolding splice
  below_splice i zs es =
      below_append (take i es) (zs ++ drop (suc i) es) ∙ ap (λ (n : ℕ). times_below l q (take i es) + n) (below_append zs (drop (suc i) es))

  -- two siblings, and two siblings replaced
  pub below_two : (i : ℕ) (es : Nodes l) → suc i < length es
      → times_below l q es ≡
      times_below l q (take i es)
      + (times q (pages_under l (node_at l es i))
      + (times q (pages_under l (node_at l es (suc i))) + times_below l q (drop (suc (suc i)) es)))
  below_two i es h =
      let a : i < length es = omega arith in
      let b : times_below l q (drop (suc i) es) ≡ times q (pages_under l (node_at l es (suc i))) + times_below l q (drop (suc (suc i)) es) =
      ap (λ r. times_below l q r) (drop-cons es (suc i) (no_node l) h) ∙ below_cons (node_at l es (suc i)) (drop (suc (suc i)) es) in
      omega (arith, below_at i es a)

  pub below_spliced : (i : ℕ) (zs ys es : Nodes l) → suc i < length es
      → times_below l q (splice i zs (splice (suc i) ys es)) ≡
      times_below l q (take i es) + (times_below l q zs + (times_below l q ys + times_below l q (drop (suc (suc i)) es)))
  below_spliced i zs ys es h =
      rw (splice_two i zs ys es h)
      (omega (
        arith,
        below_append (take i es) (zs ++ (ys ++ drop (suc (suc i)) es)),
        below_append zs (ys ++ drop (suc (suc i)) es),
        below_append ys (drop (suc (suc i)) es),
      ))

  -- a list of one
  pub below_only : (es : Nodes l) → length es ≡ 1 → times_below l q es ≡ times q (pages_under l (node_at l es 0))
  below_only [] h = absurd (omega arith)
  below_only (x ∷ []) h = below_one x
  below_only (x ∷ y ∷ es) h = absurd (omega arith)

-- nothing is below leaf entries
pub below_leaf : (q : ℕ) (es : Nodes 0) → times_below 0 q es ≡ 0
below_leaf q [] = below_none 0 q
below_leaf q (x ∷ es) = omega (arith, below_cons 0 q x es, under_zero q x, below_leaf q es)
