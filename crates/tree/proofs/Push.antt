-- A pair combined into every entry of a list: into every instant's pair, and nothing else. Assumes nothing.
use Prim.Native.Nat.{ℕ, zero, suc, ◌≤◌, ◌<◌}
use mathlib.Core.Path.{◌≡◌, refl, sym, ap, ◌∙◌, fun_ext}
use mathlib.Core.Bool.{cond}
use mathlib.Core.List.{List, [], ◌∷◌}
use lib.Dec.{leb}
use lib.ListN.{length, length-map}
use Rattle.rule.specs.declared.Pair.{Pair}
use Rattle.rule.specs.Pairs.{none, Lawful}
use Rattle.tree.specs.Tree.{Node, Subtree, Nodes, pair_under, pair_in}
use Rattle.tree.specs.Heal.{push_nodes, pushed}
use Rattle.tree.specs.Shape.{Asked, Seg, done, more, Shaped}
use Rattle.tree.proofs.Look.{look, look_after, pair_in_look}
use Rattle.tree.proofs.Shapes.{Pairless, with_pair}

-- the entry with p combined into its pair
abbrev push_node : {A : Type 0} → (Pair → Pair → Pair) → Pair → Node A → Node A
push_node ◌⊕◌ p x = with_pair (◌⊕◌ p x.entry.pair) x

module _ (◌⊕◌ : Pair → Pair → Pair) where
  infixl 60 ◌⊕◌
  push_seg : {A : Type 0} {Q R : Asked A} {lo hi : ℕ} {es : List (Node A)} (p : Pair)
      → ((a b : ℕ) (x : Node A) → Q a b x → R a b (push_node ◌⊕◌ p x)) → Seg Q lo hi es → Seg R lo hi (push_nodes ◌⊕◌ p es)
  unfolding push_nodes
  push_seg p each done = done
  push_seg {lo} p each (more {mid} {x} e lt q r) = more e lt (each lo mid x q) (push_seg p each r)

  push_length : {A : Type 0} (p : Pair) (es : List (Node A)) → length (push_nodes ◌⊕◌ p es) ≡ length es
  unfolding push_nodes
  push_length p es = length-map es (push_node ◌⊕◌ p)

  push_look : {A B : Type 0} (f : Node A → B) (t : ℕ) (d : B) (p : Pair) (es : List (Node A))
      → look f t d (push_nodes ◌⊕◌ p es) ≡ look (λ x. f (push_node ◌⊕◌ p x)) t d es
  unfolding push_nodes look
  push_look f t d p [] = refl
  push_look f t d p (x ∷ xs) = push_look f t (cond (leb x.entry.start t) (f (push_node ◌⊕◌ p x)) d) p xs

  push_shaped : (half : ℕ) {B : Asked (Subtree 0)} → Pairless B → (l lo hi : ℕ) (x : Node (Subtree l)) (p : Pair)
      → Shaped half B l lo hi x → Shaped half B l lo hi (push_node ◌⊕◌ p x)
  unfolding Shaped
  push_shaped half any zero lo hi x p q = any.any_pair lo hi x (p ⊕ x.entry.pair) q
  push_shaped half any (suc l) lo hi x p q = q

  module _ (lawful : Lawful ◌⊕◌) where
    push_under : (l t : ℕ) (x : Node (Subtree l)) (p : Pair) → pair_under ◌⊕◌ l t (push_node ◌⊕◌ p x) ≡ p ⊕ pair_under ◌⊕◌ l t x
    unfolding pair_under
    push_under zero t x p = refl
    push_under (suc l) t x p = lawful.assoc p x.entry.pair _

    push_pair : (l : ℕ) {Q : Asked (Subtree l)} {lo hi : ℕ} {es : Nodes l} (t : ℕ) (p : Pair) → Seg Q lo hi es → lo < hi → lo ≤ t
        → pair_in ◌⊕◌ l t (push_nodes ◌⊕◌ p es) ≡ p ⊕ pair_in ◌⊕◌ l t es
    push_pair l {es = es} t p s lt low =
        pair_in_look ◌⊕◌ l t (p ⊕ none) (push_seg {R = λ a b x. Unit {0}} p (λ a b x q. tt) s) lt low
        ∙ (push_look (pair_under ◌⊕◌ l t) t (p ⊕ none) p es
        ∙ (ap (λ f. look f t (p ⊕ none) es) (fun_ext (λ x. push_under l t x p))
        ∙ (sym (look_after (λ q. p ⊕ q) (pair_under ◌⊕◌ l t) t none es) ∙ ap (λ q. p ⊕ q) (sym (pair_in_look ◌⊕◌ l t none s lt low)))))

-- ---- the pair of an entry, pushed into what is below it

module _ (◌⊕◌ : Pair → Pair → Pair) (l : ℕ) (x : Node (Subtree (suc l))) where
  pub pushed_length : length (pushed ◌⊕◌ x) ≡ length x.subtree
  unfolding pushed
  pushed_length = push_length ◌⊕◌ x.entry.pair x.subtree

  pub pushed_spans : (half : ℕ) {B : Asked (Subtree 0)} {lo hi : ℕ} → Pairless B → Seg (Shaped half B l) lo hi x.subtree
      → Seg (Shaped half B l) lo hi (pushed ◌⊕◌ x)
  unfolding pushed
  pushed_spans half any s = push_seg ◌⊕◌ x.entry.pair (λ a b y q. push_shaped ◌⊕◌ half any l a b y x.entry.pair q) s

  pub pushed_pair : {Q : Asked (Subtree l)} {lo hi : ℕ} (u : ℕ) → Lawful ◌⊕◌ → Seg Q lo hi x.subtree → lo < hi → lo ≤ u
      → pair_in ◌⊕◌ l u (pushed ◌⊕◌ x) ≡ ◌⊕◌ x.entry.pair (pair_in ◌⊕◌ l u x.subtree)
  unfolding pushed
  pushed_pair u lawful s lt low = push_pair ◌⊕◌ lawful l u x.entry.pair s lt low
