-- Printing one thing behind another. Assumes nothing.
use mathlib.Core.Path.{◌≡◌, refl, sym, ap, ap₂, ◌∙◌}
use borrow.Rule.Slice.PartMut.{put_mid}
use Prim.Native.Nat.{ℕ, ◌+◌, ◌≤◌, ◌<◌}
use native.Mathlib.Omega.{arith}
use mathlib.Core.List.{List, [], ◌∷◌, ◌++◌}
use lib.ListN.{length, set, take, drop, length-append}
use lib.Seq.{drop-drop}
use Rattle.fields.specs.Bytes.{patch}
use Rattle.fields.proofs.Laws.Parts.{patch_none, patch_patch_next, set_patch, length_patch}
use Rattle.print.specs.declared.Printer.{Printer}
use Rattle.print.specs.Written.{Put, Prints}

pub put_none : (s : List ℕ) (at : ℕ) → at ≤ length s → Put s at [] s at
put_none s at h = record { room = omega arith; written = sym (patch_none s at); offset = omega arith }

pub put_one : (s : List ℕ) (at b : ℕ) → at < length s → Put s at (b ∷ []) (set s at b) (at + 1)
put_one s at b h = record { room = omega arith; written = set_patch s at b h; offset = refl }

pub put_length : {s t xs : List ℕ} {at p : ℕ} → Put s at xs t p → length t ≡ length s
put_length {s} {t} {xs} {at} f = ap length f.written ∙ length_patch s at xs f.room

-- two things are their texts, one behind the other
pub put_then : {s t u xs ys : List ℕ} {at p q : ℕ} → Put s at xs t p → Put t p ys u q → Put s at (xs ++ ys) u q
put_then {s} {t} {u} {xs} {ys} {at} {p} {q} f g =
    let l : length (xs ++ ys) ≡ length xs + length ys = length-append xs ys in
    record {
      room = omega (arith, f.offset, g.room, put_length f);
      written = g.written ∙ ap (λ r. patch r p ys) f.written ∙ patch_patch_next s at xs ys p (sym f.offset) (omega (arith, f.room));
      offset = omega (arith, f.offset, g.offset);
    }

-- what was printed, by another name
pub put_as : {s t xs ys : List ℕ} {at p : ℕ} → xs ≡ ys → Put s at xs t p → Put s at ys t p
put_as {s} {t} {xs} {ys} {at} {p} e f =
    let l : length xs ≡ length ys = ap length e in
    record { room = omega (arith, f.room); written = f.written ∙ ap (patch s at) e; offset = omega (arith, f.offset) }

-- the buffer by another name, as it is left
pub put_left : {s t u xs : List ℕ} {at p : ℕ} → u ≡ t → Put s at xs t p → Put s at xs u p
put_left e f = record { room = f.room; written = e ∙ f.written; offset = f.offset }

-- a text's beginning, and behind it the rest
pub put_behind : {s t u xs zs : List ℕ} {at p q : ℕ}
    → Put s at xs t p → xs ++ drop (length xs) zs ≡ zs → Put t p (drop (length xs) zs) u q → Put s at zs u q
put_behind f e g = put_as e (put_then f g)

-- a text as a part of the buffer
pub put_part : (s : List ℕ) (at : ℕ) (text : List ℕ) {n : ℕ} {bs : List ℕ} → at + length text ≤ length s → n ≡ length text → bs ≡ text
    → Put s at text (put_mid at n s bs) (at + length text)
unfolding patch
put_part s at text h f e =
    record {
      room = h;
      written = ap₂ (λ n bs. put_mid at n s bs) f e ∙ ap (λ r. take at s ++ (text ++ r)) (drop-drop (length text) at s);
      offset = refl;
    }

-- ---- by a printer

-- nothing, and one thing behind the other
pub prints_none : (p : Printer) → p.at ≤ length p.out.now → Prints p [] p
prints_none p h = record { same_buffer = refl; put = put_none p.out.now p.at h }

pub prints_then : {p q r : Printer} {xs ys : List ℕ} → Prints p xs q → Prints q ys r → Prints p (xs ++ ys) r
prints_then f g = record { same_buffer = g.same_buffer ∙ f.same_buffer; put = put_then f.put g.put }

-- what was printed, by another name
pub prints_as : {p q : Printer} {xs ys : List ℕ} → xs ≡ ys → Prints p xs q → Prints p ys q
prints_as e f = record { same_buffer = f.same_buffer; put = put_as e f.put }

-- a text's beginning, and behind it the rest
pub prints_behind : {p q r : Printer} {xs zs : List ℕ}
    → Prints p xs q → xs ++ drop (length xs) zs ≡ zs → Prints q (drop (length xs) zs) r → Prints p zs r
prints_behind f e g = prints_as e (prints_then f g)

-- the buffer keeps its length
pub prints_length : {p q : Printer} {xs : List ℕ} → Prints p xs q → length q.out.now ≡ length p.out.now
prints_length f = put_length f.put
