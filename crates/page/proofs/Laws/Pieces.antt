-- Lists of two or three pieces: a part that is made of pieces, and reading and writing in the second or the third piece. Assumes nothing.
use mathlib.Core.Path.{◌≡◌, sym, ap, ◌∙◌}
use mathlib.Core.List.{List, [], ◌++◌, append_assoc, append-nil}
use Prim.Native.Nat.{ℕ, ◌+◌, ◌≤◌}
use native.Mathlib.Nat.{add-zero}
use native.Mathlib.Omega.{arith}
use lib.ListN.{length, length-append}
use Rattle.fields.specs.Bytes.{part, patch}
use Rattle.fields.proofs.Laws.Parts.{part_add, part_part, part_middle, part_append_left, part_append_right, patch_append_left}
use Rattle.fields.proofs.Laws.Parts.{patch_append_right, patch_whole}

-- two parts, one after the other
pub part_pieces : (s : List ℕ) (o n p m : ℕ) {xs ys : List ℕ} → o + n ≡ p → xs ≡ part s o n → ys ≡ part s p m → xs ++ ys ≡ part s o (n + m)
part_pieces s o n p m e f g = (λ j. f j ++ (g ∙ ap (λ q. part s q m) (sym e)) j) ∙ sym (part_add s o n m)

-- the last piece
pub part_last : (xs ys : List ℕ) (o n : ℕ) → length xs ≡ o → length ys ≡ n → part (xs ++ ys) o n ≡ ys
part_last xs ys o n e f = ap (λ l. part (xs ++ l) o n) (sym (append-nil ys)) ∙ part_middle xs ys [] o n e f

-- a piece of what a part shows
pub part_inside : (s : List ℕ) (o k : ℕ) (xs ys zs : List ℕ) (m n : ℕ) → part s o k ≡ xs ++ (ys ++ zs) → length xs ≡ m
    → length ys ≡ n → m + n ≤ k → part s (o + m) n ≡ ys
part_inside s o k xs ys zs m n q e f h = sym (part_part s o k m n h) ∙ ap (λ l. part l m n) q ∙ part_middle xs ys zs m n e f

-- another piece in the middle
pub patch_middle : (xs ys zs : List ℕ) (o : ℕ) (bs : List ℕ) → length xs ≡ o → length bs ≡ length ys
    → patch (xs ++ (ys ++ zs)) o bs ≡ xs ++ (bs ++ zs)
patch_middle xs ys zs o bs e f =
    ap (λ k. patch (xs ++ (ys ++ zs)) k bs) (sym e ∙ sym (add-zero (length xs))) ∙ patch_append_right xs (ys ++ zs) 0 bs
    ∙ ap (λ l. xs ++ l) (patch_append_left ys zs 0 bs (omega arith) ∙ ap (λ l. l ++ zs) (patch_whole ys bs f))

module _ (a b c : List ℕ) (o p : ℕ) where
  pub part_second : (m : ℕ) → length a ≡ o → p + m ≤ length b → part (a ++ (b ++ c)) (o + p) m ≡ part b p m
  part_second m e h = ap (λ k. part (a ++ (b ++ c)) (k + p) m) (sym e) ∙ part_append_right a (b ++ c) p m ∙ part_append_left b c p m h

  pub part_third : (m : ℕ) → length a + length b ≡ o → part (a ++ (b ++ c)) (o + p) m ≡ part c p m
  part_third m e =
      (λ j. part (sym (append_assoc a b c) j) ((sym e ∙ sym (length-append a b)) j + p) m) ∙ part_append_right (a ++ b) c p m

  pub patch_second : (bs : List ℕ) → length a ≡ o → p + length bs ≤ length b → patch (a ++ (b ++ c)) (o + p) bs ≡ a ++ (patch b p bs ++ c)
  patch_second bs e h =
      ap (λ k. patch (a ++ (b ++ c)) (k + p) bs) (sym e) ∙ patch_append_right a (b ++ c) p bs
      ∙ ap (λ l. a ++ l) (patch_append_left b c p bs h)

  pub patch_third : (bs : List ℕ) → length a + length b ≡ o → patch (a ++ (b ++ c)) (o + p) bs ≡ a ++ (b ++ patch c p bs)
  patch_third bs e =
      (λ j. patch (sym (append_assoc a b c) j) ((sym e ∙ sym (length-append a b)) j + p) bs)
      ∙ patch_append_right (a ++ b) c p bs
      ∙ append_assoc a b (patch c p bs)
