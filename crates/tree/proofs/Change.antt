-- The five steps together: the effect stands in exactly the pairs of its span, and for kind 1 neighbouring leaf entries differ again.
-- Assumes nothing.
use Prim.Native.Nat.{ℕ, ◌-◌, ◌≤◌, ◌<◌}
use mathlib.Core.Path.{◌≡◌, refl, sym, ap, ◌∙◌, subst}
use mathlib.Core.Logic.{◌⊎◌, inl, inr, ⊎_elim}
use mathlib.Core.Bool.{Bool, true, false, cond, ◌&&◌}
use native.Mathlib.Omega.{arith}
use lib.Dec.{eqb, leb, ltb}
use borrow.Author.Tests.{eqb-true, eqb-false, le-leb, lt-leb, lt-ltb, le-ltb}
use Rattle.rule.specs.declared.Pair.{Pair}
use Rattle.rule.specs.Pairs.{Lawful, Invertible}
use Rattle.rule.specs.Time.{END, covers}
use Rattle.rule.proofs.Laws.{cancel}
use Rattle.tree.specs.Tree.{Node, Subtree, Tree, pair_at}
use Rattle.tree.specs.Cut.{State, cut}
use Rattle.tree.specs.Combine.{combine_span}
use Rattle.tree.specs.Heal.{heal}
use Rattle.tree.specs.Change.{cuts, change}
use Rattle.tree.specs.Shape.{Asked, Leaf, Formed, Differs, Distinct}
use Rattle.tree.proofs.Seg.{le_or_lt}
use Rattle.tree.proofs.Shapes.{Cuttable, Pairless, Stretchable, Parts, parts_cuttable, parts_pairless, formed_map, formed_spans}
use Rattle.tree.proofs.Cut.{cut_formed, cut_pairs}
use Rattle.tree.proofs.Combine.{combine_formed, combine_pairs}
use Rattle.tree.proofs.Heal.{heal_formed, heal_pairs, Mended, heal_mends}

module _ {half : ℕ} (two : 2 ≤ half) {B : Asked (Subtree 0)} {◌⊕◌ : Pair → Pair → Pair} (lawful : Lawful ◌⊕◌)
    {s e : ℕ} (cutting_s : Cuttable s B) (cutting_e : Cuttable e B) (any : Pairless B) (longer : Stretchable B)
    {totals : Bool} (inverse : totals ≡ true → Invertible ◌⊕◌)
    (Y : State) (F : Formed half B Y.tree) where
  infixl 60 ◌⊕◌
  cuts_formed : Formed half (Parts e (Parts s B)) (cuts half s e Y).tree
  unfolding cuts
  cuts_formed = cut_formed two (parts_cuttable s cutting_e) lawful (cut half s Y) (cut_formed two cutting_s lawful Y F)

  cuts_pairs : (u : ℕ) → pair_at ◌⊕◌ (cuts half s e Y).tree u ≡ pair_at ◌⊕◌ Y.tree u
  unfolding cuts
  cuts_pairs u =
      cut_pairs two (parts_cuttable s cutting_e) lawful (cut half s Y) (cut_formed two cutting_s lawful Y F) u
      ∙ cut_pairs two cutting_s lawful Y F u

  module _ (effect : Pair) where
    abbrev combined : State
    combined = combine_span ◌⊕◌ s e effect (cuts half s e Y)

    pub combined_formed : Formed half B combined.tree
    combined_formed =
        formed_map (λ a b y q. q.0.0)
        (combine_formed ◌⊕◌ s e effect (cuts half s e Y) cuts_formed (parts_pairless e (parts_pairless s any)))

    pub combined_pairs : (u : ℕ) → u < END
        → pair_at ◌⊕◌ combined.tree u ≡ cond (covers s e u) (pair_at ◌⊕◌ Y.tree u ⊕ effect) (pair_at ◌⊕◌ Y.tree u)
    combined_pairs u high =
        combine_pairs ◌⊕◌ s e effect (cuts half s e Y) cuts_formed lawful (λ a b y q. (q.0.1, q.1)) u high
        ∙ ap (λ p. cond (covers s e u) (p ⊕ effect) p) (cuts_pairs u)

    -- the heals alter no pair
    pub healed_pairs : (u : ℕ) → pair_at ◌⊕◌ (change half ◌⊕◌ totals s e effect Y).tree u ≡ pair_at ◌⊕◌ combined.tree u
    unfolding change
    healed_pairs u =
        heal_pairs two any longer lawful inverse e (heal half ◌⊕◌ totals s combined)
        (heal_formed two any longer lawful inverse s combined combined_formed) u
        ∙ heal_pairs two any longer lawful inverse s combined combined_formed u

    pub change_pairs : (u : ℕ) → u < END
        → pair_at ◌⊕◌ (change half ◌⊕◌ totals s e effect Y).tree u ≡
        cond (covers s e u) (pair_at ◌⊕◌ Y.tree u ⊕ effect) (pair_at ◌⊕◌ Y.tree u)
    change_pairs u high = healed_pairs u ∙ combined_pairs u high

-- ---- kind 1: neighbouring leaf entries differ again

-- at any other start both sides are inside the span, or both outside
covers_same : (s e t : ℕ) → (t ≡ s → ⊥) → (t ≡ e → ⊥) → 0 < t → covers s e t ≡ covers s e (t - 1)
unfolding covers
covers_same s e t p q some =
    ⊎_elim
    (λ (h : s ≤ t). rw (le-leb s t h, le-leb s (t - 1) (omega arith)) (ends (le_or_lt e t)))
    (λ (h : t < s). rw (lt-leb s t h, lt-leb s (t - 1) (omega arith)))
    (le_or_lt s t)
  where
    ends : (e ≤ t) ⊎ (t < e) → ltb t e ≡ ltb (t - 1) e
    ends (inl h) = le-ltb t e h ∙ sym (le-ltb (t - 1) e (omega arith))
    ends (inr h) = lt-ltb t e h ∙ sym (lt-ltb (t - 1) e (omega arith))

module _ {half : ℕ} (two : 2 ≤ half) {◌⊕◌ : Pair → Pair → Pair} (lawful : Lawful ◌⊕◌) (inverse : Invertible ◌⊕◌) (s e : ℕ) (effect : Pair)
    (Y : State) (F : Distinct half ◌⊕◌ Y.tree) where
  infixl 60 ◌⊕◌
  abbrev old : ℕ → Pair
  old = pair_at ◌⊕◌ Y.tree

  -- what the starts are while the change goes on: s and e, or where neighbours differed before
  abbrev Start : ℕ → Type 0
  Start lo = (lo ≡ s) ⊎ ((lo ≡ e) ⊎ Differs old lo)

  abbrev OnWay : Asked (Subtree 0)
  OnWay lo hi x = Leaf lo hi x × Start lo

  started : Formed half OnWay Y.tree
  unfolding Distinct
  started = formed_map (λ a b x q. (q.0, inr (inr q.1))) F

  cut_s : Cuttable s OnWay
  cut_s = record { before = λ lo hi x l h q. q; after = λ lo hi x l h q. (q.0, inl refl) }

  cut_e : Cuttable e OnWay
  cut_e = record { before = λ lo hi x l h q. q; after = λ lo hi x l h q. (q.0, inr (inl refl)) }

  any_way : Pairless OnWay
  any_way = record { any_pair = λ lo hi x p q. q }

  longer_way : Stretchable OnWay
  longer_way = record { stretched = λ lo mid hi x l h q. q }

  inv : true ≡ true → Invertible ◌⊕◌
  inv h = inverse

  abbrev C : State
  C = combine_span ◌⊕◌ s e effect (cuts half s e Y)

  abbrev D : State
  D = heal half ◌⊕◌ true s C

  formed_c : Formed half OnWay C.tree
  formed_c = combined_formed two lawful cut_s cut_e any_way longer_way {totals = true} inv Y started effect

  abbrev AfterD : Asked (Subtree 0)
  AfterD = Mended two any_way longer_way lawful inv s C formed_c refl

  formed_d : Formed half AfterD D.tree
  formed_d = heal_mends two any_way longer_way lawful inv s C formed_c refl

  any_d : Pairless AfterD
  any_d = record { any_pair = λ lo hi x p q. q }

  longer_d : Stretchable AfterD
  longer_d = record { stretched = λ lo mid hi x l h q. q }

  pub change_distinct : Distinct half ◌⊕◌ (change half ◌⊕◌ true s e effect Y).tree
  unfolding Distinct change
  change_distinct = formed_spans mended (heal_mends two any_d longer_d lawful inv e D formed_d refl)
    where
      new : ℕ → Pair
      new = pair_at ◌⊕◌ (heal half ◌⊕◌ true e D).tree

      same_d : (u : ℕ) → pair_at ◌⊕◌ D.tree u ≡ pair_at ◌⊕◌ C.tree u
      same_d u = heal_pairs two any_way longer_way lawful inv s C formed_c u

      same_e : (u : ℕ) → new u ≡ pair_at ◌⊕◌ D.tree u
      same_e u = heal_pairs two any_d longer_d lawful inv e D formed_d u

      mended : (a b : ℕ) (x : Node (Subtree 0)) → a < b → b ≤ END
          → Mended two any_d longer_d lawful inv e D formed_d refl a b x → Leaf a b x × Differs new a
      mended a b x lt le q = (q.0.0.0, λ some same. at_s some same (eqb a s) refl)
        where
          -- what is equal afterwards was equal once the effect stood
          equal_c : new a ≡ new (a - 1) → pair_at ◌⊕◌ C.tree a ≡ pair_at ◌⊕◌ C.tree (a - 1)
          equal_c h = sym (same_e a ∙ same_d a) ∙ (h ∙ (same_e (a - 1) ∙ same_d (a - 1)))

          -- and before it, at a start that is neither s nor e
          equal_old : (c : Bool) → covers s e a ≡ c → covers s e (a - 1) ≡ c → 0 < a
              → pair_at ◌⊕◌ C.tree a ≡ pair_at ◌⊕◌ C.tree (a - 1) → old a ≡ old (a - 1)
          equal_old c here before some h =
              by c
              (sym (combined a (omega arith) ∙ ap (λ z. cond z (old a ⊕ effect) (old a)) here)
              ∙ (h ∙ (combined (a - 1) (omega arith) ∙ ap (λ z. cond z (old (a - 1) ⊕ effect) (old (a - 1))) before)))
            where
              combined : (u : ℕ) → u < END → pair_at ◌⊕◌ C.tree u ≡ cond (covers s e u) (old u ⊕ effect) (old u)
              combined u h = combined_pairs two lawful cut_s cut_e any_way longer_way {totals = true} inv Y started effect u h

              by : (z : Bool) → cond z (old a ⊕ effect) (old a) ≡ cond z (old (a - 1) ⊕ effect) (old (a - 1)) → old a ≡ old (a - 1)
              by true k = cancel lawful inverse effect (old a) (old (a - 1)) (lawful.comm effect (old a) ∙ (k ∙ lawful.comm (old (a - 1)) effect))
              by false k = k

          other : (a ≡ s → ⊥) → (a ≡ e → ⊥) → 0 < a → new a ≡ new (a - 1) → Start a → ⊥
          other p r some same (inl h) = p h
          other p r some same (inr (inl h)) = r h
          other p r some same (inr (inr h)) =
              h some (equal_old (covers s e (a - 1)) (covers_same s e a p r some) refl some (equal_c same))

          at_e : (a ≡ s → ⊥) → 0 < a → new a ≡ new (a - 1) → (z : Bool) → eqb a e ≡ z → ⊥
          at_e p some same true h =
              let k = eqb-true a e h in
              q.1 k (omega arith)
              (subst (λ z. pair_at ◌⊕◌ D.tree z ≡ pair_at ◌⊕◌ D.tree (z - 1)) k (sym (same_e a) ∙ (same ∙ same_e (a - 1))))
          at_e p some same false h = other p (eqb-false a e h) some same q.0.0.1

          at_s : 0 < a → new a ≡ new (a - 1) → (z : Bool) → eqb a s ≡ z → ⊥
          at_s some same true h =
              let k = eqb-true a s h in
              q.0.1 k (omega arith) (subst (λ z. pair_at ◌⊕◌ C.tree z ≡ pair_at ◌⊕◌ C.tree (z - 1)) k (equal_c same))
          at_s some same false h = at_e (eqb-false a s h) some same (eqb a e) refl
