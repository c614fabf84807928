-- The lists that a page's entries are while they move by a slot, one at a time: up, to make room for one more, and down, over one that
-- goes. Assumes nothing.
use mathlib.Core.Path.{◌≡◌, refl, sym, ap, ◌∙◌}
use mathlib.Core.List.{List, [], ◌∷◌, ◌++◌}
use Prim.Native.Nat.{ℕ, zero, suc, ◌+◌, ◌-◌, ◌≤◌, ◌<◌, min}
use native.Mathlib.Omega.{arith}
use lib.ListN.{length, get_or, take, drop, length-append, length-take, length-drop}
use lib.Seq.{drop-cons}
use Rattle.lists.specs.Lists.{splice}
use Rattle.lists.proofs.Edits.{length_splice}
use Rattle.page.specs.Entries.{inserted}

module _ {A : Type 0} where
  pub splice_end : (es : List A) (e : A) → splice (length es) (e ∷ []) es ≡ es ++ (e ∷ [])
  unfolding splice
  splice_end [] e = refl
  splice_end (x ∷ es) e = ap (λ l. x ∷ l) (splice_end es e)

  -- ---- up: those from the j-th on stand a slot higher, and the j-th still stands in its own, too

  unfoldable pub opened : ℕ → List A → List A
  opened j es = take (suc j) es ++ drop j es

  pub opened_none : (es : List A) → opened (length es) es ≡ es
  unfolding opened
  opened_none [] = refl
  opened_none (x ∷ es) = ap (λ l. x ∷ l) (opened_none es)

  pub opened_set : (j : ℕ) (e : A) (es : List A) → splice j (e ∷ []) (opened j es) ≡ inserted j e es
  unfolding opened splice inserted
  opened_set zero e [] = refl
  opened_set zero e (x ∷ es) = refl
  opened_set (suc j) e [] = refl
  opened_set (suc j) e (x ∷ es) = ap (λ l. x ∷ l) (opened_set j e es)

  pub length_inserted : (i : ℕ) (e : A) (es : List A) → length (inserted i e es) ≡ suc (length es)
  unfolding inserted
  length_inserted i e es = simp (length-append, length-take, length-drop) (omega arith)

  pub length_opened : (j : ℕ) (es : List A) → length (opened j es) ≡ min (suc j) (length es) + (length es - j)
  unfolding opened
  length_opened j es = simp (length-append, length-take, length-drop)

  opened_at : (j : ℕ) (es : List A) (d : A) → get_or (opened (suc j) es) j d ≡ get_or es j d
  unfolding opened
  opened_at j [] d = refl
  opened_at zero (x ∷ es) d = refl
  opened_at (suc j) (x ∷ es) d = opened_at j es d

  -- the j-th moves
  pub opened_more : (j : ℕ) (es : List A) (d : A) → j < length es
      → splice (suc j) (get_or (opened (suc j) es) j d ∷ []) (opened (suc j) es) ≡ opened j es
  unfolding opened inserted
  opened_more j es d h =
      ap (λ x. splice (suc j) (x ∷ []) (opened (suc j) es)) (opened_at j es d)
      ∙ opened_set (suc j) (get_or es j d) es
      ∙ ap (λ l. take (suc j) es ++ l) (sym (drop-cons es j d h))

  -- ---- down: those of rs up to the j-th, which es becomes, and behind them those of es

  unfoldable pub closed : ℕ → List A → List A → List A
  closed j rs es = take j rs ++ drop j es

  pub closed_none : (i : ℕ) (es : List A) → closed i (splice i [] es) es ≡ es
  unfolding closed splice
  closed_none zero es = refl
  closed_none (suc i) [] = refl
  closed_none (suc i) (x ∷ es) = ap (λ l. x ∷ l) (closed_none i es)

  pub length_closed : (j : ℕ) (rs es : List A) → length (closed j rs es) ≡ min j (length rs) + (length es - j)
  unfolding closed
  length_closed j rs es = simp (length-append, length-take, length-drop)

  closed_set : (j : ℕ) (rs es : List A) (d : A) → j < length rs → j < length es
      → splice j (get_or rs j d ∷ []) (closed j rs es) ≡ closed (suc j) rs es
  unfolding closed splice
  closed_set j [] es d h l = absurd (omega arith)
  closed_set j (r ∷ rs) [] d h l = absurd (omega arith)
  closed_set zero (r ∷ rs) (x ∷ es) d h l = refl
  closed_set (suc j) (r ∷ rs) (x ∷ es) d h l = ap (λ t. r ∷ t) (closed_set j rs es d (omega arith) (omega arith))

  closed_at : (j : ℕ) (rs es : List A) (d : A) → j ≤ length rs → j < length es → get_or (closed j rs es) (suc j) d ≡ get_or es (suc j) d
  unfolding closed
  closed_at zero rs es d h l = refl
  closed_at (suc j) [] es d h l = absurd (omega arith)
  closed_at (suc j) (r ∷ rs) [] d h l = absurd (omega arith)
  closed_at (suc j) (r ∷ rs) (x ∷ es) d h l = closed_at j rs es d (omega arith) (omega arith)

  pub length_removed : (i : ℕ) (es : List A) → i < length es → length (splice i [] es) + 1 ≡ length es
  length_removed i es h = omega (arith, length_splice i [] es h)

  -- behind the one that goes stand those that stood a slot higher
  removed_at : (i j : ℕ) (es : List A) (d : A) → i ≤ j → get_or (splice i [] es) j d ≡ get_or es (suc j) d
  unfolding splice
  removed_at zero j [] d h = refl
  removed_at zero j (x ∷ es) d h = refl
  removed_at (suc i) j [] d h = refl
  removed_at (suc i) zero (x ∷ es) d h = absurd (omega arith)
  removed_at (suc i) (suc j) (x ∷ es) d h = removed_at i j es d (omega arith)

  -- the one behind the j-th moves
  pub closed_more : (i j : ℕ) (es : List A) (d : A) → i ≤ j → suc j < length es
      → splice j (get_or (closed j (splice i [] es) es) (suc j) d ∷ []) (closed j (splice i [] es) es) ≡ closed (suc j) (splice i [] es) es
  closed_more i j es d h l =
      let rs : List A = splice i [] es in
      let n : length rs + 1 ≡ length es = length_removed i es (omega arith) in
      ap (λ x. splice j (x ∷ []) (closed j rs es)) (closed_at j rs es d (omega arith) (omega arith) ∙ sym (removed_at i j es d h))
      ∙ closed_set j rs es d (omega arith) (omega arith)

  -- all moved: the last stands twice
  pub closed_all : (rs es : List A) (d : A) → length rs + 1 ≡ length es → closed (length rs) rs es ≡ rs ++ (get_or es (length rs) d ∷ [])
  unfolding closed
  closed_all rs [] d h = absurd (omega arith)
  closed_all [] (x ∷ []) d h = refl
  closed_all [] (x ∷ y ∷ es) d h = absurd (omega arith)
  closed_all (r ∷ rs) (x ∷ es) d h = ap (λ l. r ∷ l) (closed_all rs es d (omega arith))
