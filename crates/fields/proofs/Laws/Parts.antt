-- The laws of `part` and `patch`: what is read after something was written, parts of parts, and writes that meet. Assumes nothing.
use mathlib.Core.Path.{◌≡◌, refl, sym, ap, ◌∙◌}
use Prim.Native.Nat.{ℕ, zero, suc, ◌+◌, ◌-◌, ◌≤◌, ◌<◌}
use native.Mathlib.Nat.{add-zero, zero-add, add_assoc, add-sub_of_le}
use native.Mathlib.Numerals.{add-one}
use native.Mathlib.Omega.{arith}
use mathlib.Core.List.{List, [], ◌∷◌, ◌++◌, append_assoc, append-nil}
use lib.ListN.{length, get_or, set, take, drop, replicate, length-replicate, replicate-append-replicate, length-append, length-take}
use lib.ListN.{length-drop, take-append-drop}
use lib.Seq.{length-take-le, take-length, drop-length, take-take, take-add, drop-cons, drop-drop, take_at, drop_at, take-append-le}
use lib.Seq.{drop-append-le, take-append-add, drop-append-add, set_split, sets, sets-eq}
use Rattle.fields.specs.Bytes.{part, patch}

-- ---- a part

pub length_part : (s : List ℕ) (o n : ℕ) → o + n ≤ length s → length (part s o n) ≡ n
unfolding part
length_part s o n h = simp (length-take, length-drop) (omega arith)

-- the whole list is its part
pub part_whole : (s : List ℕ) (n : ℕ) → length s ≡ n → part s 0 n ≡ s
unfolding part
part_whole s n e = rw (← e) (take-length s)

pub part_none : (s : List ℕ) (o : ℕ) → part s o 0 ≡ []
unfolding part
part_none s o = refl

pub part_first : (s : List ℕ) (o n : ℕ) → o < length s → part s o (suc n) ≡ get_or s o 0 ∷ part s (o + 1) n
unfolding part
part_first s o n h = rw (add-one, drop-cons s o 0 h)

-- two parts, one after the other
pub part_add : (s : List ℕ) (o n m : ℕ) → part s o (n + m) ≡ part s o n ++ part s (o + n) m
unfolding part
part_add s o n m = take-add n m (drop o s) ∙ ap (λ l. take n (drop o s) ++ take m l) (drop-drop n o s)

-- a part of a part
take_drop_take : (m o n : ℕ) (l : List ℕ) → o + m ≤ n → take m (drop o (take n l)) ≡ take m (drop o l)
take_drop_take m zero n l h = take-take m n l (omega arith)
take_drop_take m (suc o) zero l h = absurd (omega arith)
take_drop_take m (suc o) (suc n) [] h = refl
take_drop_take m (suc o) (suc n) (x ∷ l) h = take_drop_take m o n l (omega arith)

pub part_part : (s : List ℕ) (a n o m : ℕ) → o + m ≤ n → part (part s a n) o m ≡ part s (a + o) m
unfolding part
part_part s a n o m h = take_drop_take m o n (drop a s) h ∙ ap (take m) (drop-drop o a s)

-- a part of an append: within its first list, past it, and a list in the middle
pub part_append_left : (xs ys : List ℕ) (o n : ℕ) → o + n ≤ length xs → part (xs ++ ys) o n ≡ part xs o n
unfolding part
part_append_left xs ys o n h =
    let d : o ≤ length xs = omega arith in
    let t : n ≤ length (drop o xs) = simp length-drop (omega arith) in
    ap (take n) (drop-append-le o xs ys d) ∙ take-append-le n (drop o xs) ys t

pub part_append_right : (xs ys : List ℕ) (o n : ℕ) → part (xs ++ ys) (length xs + o) n ≡ part ys o n
unfolding part
part_append_right xs ys o n = ap (take n) (sym (drop-drop o (length xs) (xs ++ ys)) ∙ ap (drop o) (drop_at xs ys (length xs) refl))

pub part_middle : (xs ys zs : List ℕ) (o n : ℕ) → length xs ≡ o → length ys ≡ n → part (xs ++ (ys ++ zs)) o n ≡ ys
unfolding part
part_middle xs ys zs o n e f = ap (take n) (drop_at xs (ys ++ zs) o e) ∙ take_at ys zs n f

-- ---- a patch

pub length_patch : (s : List ℕ) (o : ℕ) (bs : List ℕ) → o + length bs ≤ length s → length (patch s o bs) ≡ length s
unfolding patch
length_patch s o bs h = simp (length-append, length-take, length-drop) (omega arith)

take_patch : (s : List ℕ) (o : ℕ) (bs : List ℕ) → o ≤ length s → take (o + length bs) (patch s o bs) ≡ take o s ++ bs
unfolding patch
take_patch s o bs h =
    ap (take (o + length bs)) (sym (append_assoc (take o s) bs (drop (o + length bs) s)))
    ∙ take_at (take o s ++ bs) (drop (o + length bs) s) (o + length bs) (simp (length-append, length-take) (omega arith))

-- before a patch nothing changes
take_patch_before : (s : List ℕ) (o : ℕ) (bs : List ℕ) (i : ℕ) → i ≤ o → o ≤ length s → take i (patch s o bs) ≡ take i s
unfolding patch
take_patch_before s o bs i g h =
    take-append-le i (take o s) (bs ++ drop (o + length bs) s) (omega (arith, length-take-le o s h)) ∙ take-take i o s g

pub part_patch_before : (s : List ℕ) (o : ℕ) (bs : List ℕ) → o ≤ length s → (a n : ℕ) → a + n ≤ o → part (patch s o bs) a n ≡ part s a n
unfolding part
part_patch_before s o bs h a n g =
    sym (take_drop_take n a o (patch s o bs) g)
    ∙ ap (λ l. take n (drop a l)) (take_patch_before s o bs o (omega arith) h)
    ∙ take_drop_take n a o s g

-- after a patch nothing changes
drop_patch_after : (s : List ℕ) (o : ℕ) (bs : List ℕ) (i : ℕ) → o + length bs ≤ i → o ≤ length s → drop i (patch s o bs) ≡ drop i s
unfolding patch
drop_patch_after s o bs i g h =
    let n : ℕ = o + length bs in
    let e : n + (i - n) ≡ i = add-sub_of_le g in
    ap (λ k. drop k (patch s o bs)) (sym e)
    ∙ sym (drop-drop (i - n) n (patch s o bs))
    ∙ ap (λ l. drop (i - n) (drop n l)) (sym (append_assoc (take o s) bs (drop n s)))
    ∙ ap (drop (i - n)) (drop_at (take o s ++ bs) (drop n s) n (simp (length-append, length-take) (omega arith)))
    ∙ drop-drop (i - n) n s
    ∙ ap (λ k. drop k s) e

-- what a patch wrote stands at its offset
pub part_patch_same : (s : List ℕ) (o : ℕ) (bs : List ℕ) (n : ℕ) → length bs ≡ n → o ≤ length s → part (patch s o bs) o n ≡ bs
unfolding patch
part_patch_same s o bs n e h = part_middle (take o s) bs (drop (o + length bs) s) o n (length-take-le o s h) e

-- writing nothing, and the whole list
pub patch_none : (s : List ℕ) (o : ℕ) → patch s o [] ≡ s
unfolding patch
patch_none s o = rw add-zero (take-append-drop o s)

pub patch_whole : (s bs : List ℕ) → length bs ≡ length s → patch s 0 bs ≡ bs
unfolding patch
patch_whole s bs e = rw (zero-add, e) (ap (λ l. bs ++ l) (drop-length s) ∙ append-nil bs)

-- a store is a patch of one byte
pub set_patch : (s : List ℕ) (i v : ℕ) → i < length s → set s i v ≡ patch s i (v ∷ [])
unfolding patch
set_patch s i v h = rw add-one (set_split s i v h)

-- and stores one after the other, as `sets` has them
pub sets_patch : (s : List ℕ) (o : ℕ) (bs : List ℕ) → o + length bs ≤ length s → sets s o bs ≡ patch s o bs
unfolding patch
sets_patch s o bs h = sets-eq bs s o h ∙ append_assoc (take o s) bs (drop (o + length bs) s)

-- adjacent patches join
pub patch_patch_next : (s : List ℕ) (o : ℕ) (xs ys : List ℕ) (p : ℕ) → o + length xs ≡ p → o ≤ length s
    → patch (patch s o xs) p ys ≡ patch s o (xs ++ ys)
unfolding patch
patch_patch_next s o xs ys p e h =
    let d : p + length ys ≡ o + length (xs ++ ys) = simp length-append (omega arith) in
    ap (λ l. l ++ (ys ++ drop (p + length ys) (patch s o xs))) (ap (λ k. take k (patch s o xs)) (sym e) ∙ take_patch s o xs h)
    ∙ ap (λ l. take o s ++ xs ++ (ys ++ l)) (drop_patch_after s o xs (p + length ys) (omega arith) h ∙ ap (λ k. drop k s) d)
    ∙ append_assoc (take o s) xs (ys ++ drop (o + length (xs ++ ys)) s)
    ∙ ap (λ l. take o s ++ l) (sym (append_assoc xs ys (drop (o + length (xs ++ ys)) s)))

-- also where the one in front is the later one
pub patch_front : (s : List ℕ) (o : ℕ) (ys : List ℕ) (p : ℕ) (xs : List ℕ) → p + length xs ≡ o → o ≤ length s
    → patch (patch s o ys) p xs ≡ patch s p (xs ++ ys)
unfolding patch
patch_front s o ys p xs e h =
    let d : o + length ys ≡ p + length (xs ++ ys) = simp length-append (omega arith) in
    let behind : drop (p + length xs) (patch s o ys) ≡ ys ++ drop (p + length (xs ++ ys)) s =
    ap (λ k. drop k (patch s o ys)) e
    ∙ drop_at (take o s) (ys ++ drop (o + length ys) s) o (length-take-le o s h)
    ∙ ap (λ k. ys ++ drop k s) d in
    (λ j. take_patch_before s o ys p (omega arith) h j ++ (xs ++ behind j))
    ∙ ap (λ l. take p s ++ l) (sym (append_assoc xs ys (drop (p + length (xs ++ ys)) s)))

-- a patch over another of as many bytes
pub patch_again : (s : List ℕ) (o : ℕ) (xs ys : List ℕ) → length ys ≡ length xs → o ≤ length s → patch (patch s o xs) o ys ≡ patch s o ys
unfolding patch
patch_again s o xs ys e h =
    λ j. take_patch_before s o xs o (omega arith) h j ++ (ys ++ drop_patch_after s o xs (o + length ys) (omega arith) h j)

-- a store right after a patch, and after a run of one byte
pub set_patch_next : (s : List ℕ) (o : ℕ) (bs : List ℕ) (i v : ℕ) → o + length bs ≡ i → i < length s
    → set (patch s o bs) i v ≡ patch s o (bs ++ (v ∷ []))
set_patch_next s o bs i v e h =
    let l : length (patch s o bs) ≡ length s = length_patch s o bs (omega arith) in
    set_patch (patch s o bs) i v (omega arith) ∙ patch_patch_next s o bs (v ∷ []) i e (omega arith)

pub fill_more : (s : List ℕ) (a i b : ℕ) → a + i < length s → set (patch s a (replicate i b)) (a + i) b ≡ patch s a (replicate (i + 1) b)
fill_more s a i b h =
    set_patch_next s a (replicate i b) (a + i) b (ap (λ k. a + k) (length-replicate i b)) h
    ∙ ap (patch s a) (replicate-append-replicate i 1 b)

-- a patch of an append, within its first list or past it
pub patch_append_left : (xs ys : List ℕ) (o : ℕ) (bs : List ℕ) → o + length bs ≤ length xs → patch (xs ++ ys) o bs ≡ patch xs o bs ++ ys
unfolding patch
patch_append_left xs ys o bs h =
    ap (λ l. l ++ (bs ++ drop (o + length bs) (xs ++ ys))) (take-append-le o xs ys (omega arith))
    ∙ ap (λ l. take o xs ++ (bs ++ l)) (drop-append-le (o + length bs) xs ys h)
    ∙ simp append_assoc

pub patch_append_right : (xs ys : List ℕ) (o : ℕ) (bs : List ℕ) → patch (xs ++ ys) (length xs + o) bs ≡ xs ++ patch ys o bs
unfolding patch
patch_append_right xs ys o bs =
    ap (λ l. l ++ (bs ++ drop (length xs + o + length bs) (xs ++ ys))) (take-append-add xs ys o)
    ∙ ap (λ l. xs ++ take o ys ++ (bs ++ l))
    (ap (λ k. drop k (xs ++ ys)) (add_assoc (length xs) o (length bs)) ∙ drop-append-add xs ys (o + length bs))
    ∙ append_assoc xs (take o ys) (bs ++ drop (o + length bs) ys)
