-- Consecutive entries, and which of them has an instant. Assumes nothing.
use Prim.Native.Nat.{ℕ, suc, ◌+◌, ◌≤◌, ◌<◌}
use mathlib.Core.Path.{◌≡◌, refl, sym, ap, ◌∙◌, subst⁻¹}
use mathlib.Core.List.{List, [], ◌∷◌, ◌++◌}
use native.Mathlib.Omega.{arith}
use native.Mathlib.Nat.{zero-add, add-zero}
use lib.Dec.{leb}
use lib.ListN.{length, get_or}
use lib.Seq.{get_or-append_seam}
use Rattle.lists.proofs.Choices.{either}
use Rattle.page.specs.Entries.{last_from, index_of}
use Rattle.tree.specs.Tree.{Node, Subtree, Nodes, no_node, flat}
use Rattle.tree.specs.Shape.{Asked, Seg, done, more}
use Rattle.tree.proofs.Seg.{from_yes, from_no, seg_append, seg_map}
use Rattle.tree.proofs.Find.{Found, found, find}
use Rattle.refinement.proofs.Paths.{there}

-- entries that follow each other from lo to hi
abbrev pub Row : {A : Type 0} → ℕ → ℕ → List (Node A) → Type 0
Row lo hi es = Seg (λ a b x. Unit {0}) lo hi es

pub row : {A : Type 0} {Q : Asked A} {lo hi : ℕ} {es : List (Node A)} → Seg Q lo hi es → Row lo hi es
row s = seg_map (λ a b x l h q. tt) s

-- entries that follow each other, and the one that has t, if one has it, is v
abbrev pub Owned : (l t : ℕ) → Node (Subtree l) → ℕ → ℕ → Nodes l → Type 0
Owned l t v lo hi es = Seg (λ a b x. a ≤ t → t < b → x ≡ v) lo hi es

module _ (l t : ℕ) where
  module _ {Q : Asked (Subtree l)} {lo hi : ℕ} {es : Nodes l} where
    pub before : (v : Node (Subtree l)) → hi ≤ t → Seg Q lo hi es → Owned l t v lo hi es
    before v h = seg_map (λ a b x low high q le lt. absurd (omega arith))

    pub behind : (v : Node (Subtree l)) → t < lo → Seg Q lo hi es → Owned l t v lo hi es
    behind v h = seg_map (λ a b x low high q le lt. absurd (omega arith))

  pub there_is : {v : Node (Subtree l)} {lo hi : ℕ} {es : Nodes l} → Owned l t v lo hi es → lo ≤ t → t < hi → there l t es ≡ v
  there_is {v} {lo} {hi} s low high = go (find t s (omega arith) low)
    where
      go : {es : Nodes l} {i : ℕ} → Found (λ a b x. a ≤ t → t < b → x ≡ v) t lo hi es i → get_or es i (no_node l) ≡ v
      go (found {xs = xs} {x = x} {ys = ys} f e lt q r le after) = get_or-append_seam xs x ys (no_node l) ∙ q le (after high)

  pub there_one : (x : Node (Subtree l)) → there l t (x ∷ []) ≡ x
  unfolding index_of last_from
  there_one x = either (λ n. get_or (x ∷ []) n (no_node l) ≡ x) refl refl (leb x.entry.start t)

  pub owned : {Q : Asked (Subtree l)} {lo hi : ℕ} {es : Nodes l} → Seg Q lo hi es → lo ≤ t → t < hi → Owned l t (there l t es) lo hi es
  owned {Q} {lo} {hi} s low high = go (find t s (omega arith) low)
    where
      go : {es : Nodes l} {i : ℕ} → Found Q t lo hi es i → Owned l t (get_or es i (no_node l)) lo hi es
      go (found {xs = xs} {x = x} {ys = ys} f e lt q r le after) =
          subst⁻¹ (λ v. Owned l t v lo hi (xs ++ x ∷ ys)) (get_or-append_seam xs x ys (no_node l))
          (seg_append (before x le f) (more e lt (λ m n. refl) (behind x (after high) r)))

-- ---- its index

module _ {A : Type 0} (t : ℕ) where
  early : {Q : Asked A} {lo hi : ℕ} {es : List (Node A)} (i k : ℕ) → Seg Q lo hi es → t < lo → last_from t i k (flat es) ≡ k
  unfolding last_from
  early i k done h = refl
  early i k (more {x} {es} e lt q r) h =
      let l : t < x.entry.start = omega arith in
      ap (λ z. last_from t (suc i) z (flat es)) (from_no i k l) ∙ early (suc i) k r (omega arith)

  counted : {Q R : Asked A} {lo a b hi : ℕ} {xs ys : List (Node A)} (x : Node A) (i k : ℕ) → Seg Q lo a xs → x.entry.start ≤ t
      → Seg R b hi ys → t < b
      → last_from t i k (flat (xs ++ x ∷ ys)) ≡ i + length xs
  unfolding last_from
  counted {ys = ys} x i k done le r h =
      ap (λ z. last_from t (suc i) z (flat ys)) (from_yes i k le) ∙ (early (suc i) i r h ∙ sym (add-zero i))
  counted x i k (more e lt q s) le r h = counted x (suc i) _ s le r h ∙ omega arith

  -- behind the entries before it
  pub index_at : {Q R : Asked A} {lo a b hi : ℕ} {xs ys : List (Node A)} (x : Node A) → Seg Q lo a xs → x.entry.start ≤ t → Seg R b hi ys
      → t < b
      → index_of t (flat (xs ++ x ∷ ys)) ≡ length xs
  unfolding index_of
  index_at {xs = xs} x s le r h = counted x 0 0 s le r h ∙ zero-add (length xs)
