-- An entry and its bytes: it is read where they stand, and they are the bytes of what is read. Assumes nothing.
use mathlib.Core.Path.{◌≡◌, refl, sym, ap, ◌∙◌}
use mathlib.Core.List.{List, [], ◌++◌, append_assoc, append-nil}
use Prim.Native.Nat.{ℕ, ◌+◌, ◌≤◌, ◌<◌, ◌^◌}
use native.Mathlib.Nat.{add-zero}
use native.Mathlib.Omega.{arith}
use lib.ListN.{length, length-append}
use lib.Dec.{lit<}
use Rattle.fields.specs.Bytes.{Bytes, part, patch}
use Rattle.fields.proofs.Laws.Parts.{patch_patch_next}
use Rattle.fields.specs.Numbers.{u32_bytes, i32_bytes, i64_bytes}
use Rattle.fields.proofs.Laws.Digits.{bytes_append}
use Rattle.fields.proofs.Laws.Offsets.{u32, i32, i64}
use Rattle.page.specs.declared.Entry.{Entry}
use Rattle.page.specs.Entries.{no_entry}
use Rattle.page.specs.Layout.{start_offset, entry_offset, entry_count, start_at, pair_at, child_at, entry_at, entry_bytes}
use Rattle.page.specs.Widths.{EntryFits}
use Rattle.page.proofs.Laws.Pieces.{part_pieces, part_inside}

-- the two pieces of an entry: its start, and its slot in the array of entries
abbrev pub start_bytes : Entry → List ℕ
start_bytes e = u32_bytes e.start

pub length_start_bytes : (e : Entry) → length (start_bytes e) ≡ 4
length_start_bytes e = u32.length_bytes e.start

pub bytes_start_bytes : (e : Entry) → Bytes (start_bytes e)
bytes_start_bytes e = u32.bytes_bytes e.start

pub length_entry_bytes : (e : Entry) → length (entry_bytes e) ≡ 16
unfolding entry_bytes
length_entry_bytes e = simp (length-append, i64.length_bytes, i32.length_bytes, u32.length_bytes)

-- ahead of its child stand its sum and its count
length_ahead : (e : Entry) → length (i64_bytes e.pair.sum ++ i32_bytes e.pair.count) ≡ 12
length_ahead e = simp (length-append, i64.length_bytes, i32.length_bytes)

pub bytes_entry_bytes : (e : Entry) → Bytes (entry_bytes e)
unfolding entry_bytes
bytes_entry_bytes e =
    bytes_append (i64_bytes e.pair.sum) (i32_bytes e.pair.count ++ u32_bytes e.child) (i64.bytes_bytes e.pair.sum)
    (bytes_append (i32_bytes e.pair.count) (u32_bytes e.child) (i32.bytes_bytes e.pair.count) (u32.bytes_bytes e.child))

pub no_entry_fits : EntryFits no_entry
no_entry_fits = record { start = lit< tt; sum = record { sfits = lit< tt }; count = record { sfits = lit< tt }; child = lit< tt }

-- a page tells its number of entries by 32 bits
pub entry_count_fits : (s : List ℕ) → Bytes s → entry_count s < 2 ^ 32
unfolding entry_count
entry_count_fits s b = u32.at_fits s 4 b

module _ (half : ℕ) (s : List ℕ) (i : ℕ) where
  -- where an entry's bytes stand, it is read
  pub entry_at_bytes : (e : Entry) → part s (start_offset i) 4 ≡ start_bytes e → part s (entry_offset half i) 16 ≡ entry_bytes e
      → EntryFits e → entry_at half s i ≡ e
  unfolding entry_at start_at pair_at child_at entry_bytes
  entry_at_bytes e f g w =
      let o : ℕ = entry_offset half i in
      let a : List ℕ = i64_bytes e.pair.sum in
      let b : List ℕ = i32_bytes e.pair.count in
      let c : List ℕ = u32_bytes e.child in
      let la : length a ≡ 8 = i64.length_bytes e.pair.sum in
      let k : part s o 16 ≡ a ++ b ++ (c ++ []) = g ∙ sym (append_assoc a b c) ∙ ap (λ l. a ++ b ++ l) (sym (append-nil c)) in
      let sum : part s o 8 ≡ a = ap (λ p. part s p 8) (sym (add-zero o)) ∙ part_inside s o 16 [] a (b ++ c) 0 8 g refl la (omega arith) in
      let count : part s (o + 8) 4 ≡ b = part_inside s o 16 a b c 8 4 g la (i32.length_bytes e.pair.count) (omega arith) in
      let child : part s (o + 12) 4 ≡ c =
      part_inside s o 16 (a ++ b) c [] 12 4 k (length_ahead e) (u32.length_bytes e.child) (omega arith) in
      λ j. record {
        start = u32.at_bytes s (start_offset i) e.start f w.start j;
        pair = record {
          sum = i64.at_bytes s o e.pair.sum sum w.sum j;
          count =
              i32.at_bytes s (o + 8) e.pair.count count w.count j;
        };
        child = u32.at_bytes s (o + 12) e.child child w.child j;
      }

  -- an entry that is read has its widths
  pub entry_at_fits : Bytes s → EntryFits (entry_at half s i)
  unfolding entry_at start_at pair_at child_at
  entry_at_fits b =
      let o : ℕ = entry_offset half i in
      record {
        start = u32.at_fits s (start_offset i) b;
        sum = i64.at_fits s o b;
        count = i32.at_fits s (o + 8) b;
        child = u32.at_fits s (o + 12) b;
      }

  -- the bytes of the entry that is read are those that stand there
  pub start_bytes_at : Bytes s → start_offset i + 4 ≤ length s → start_bytes (entry_at half s i) ≡ part s (start_offset i) 4
  unfolding entry_at start_at
  start_bytes_at b h = u32.bytes_at s (start_offset i) b h

  pub entry_bytes_at : Bytes s → entry_offset half i + 16 ≤ length s → entry_bytes (entry_at half s i) ≡ part s (entry_offset half i) 16
  unfolding entry_at pair_at child_at entry_bytes
  entry_bytes_at b h =
      let o : ℕ = entry_offset half i in
      part_pieces s o 8 (o + 8) 8 refl (i64.bytes_at s o b (omega arith))
      (part_pieces s (o + 8) 4 (o + 12) 4 (omega arith) (i32.bytes_at s (o + 8) b (omega arith))
      (u32.bytes_at s (o + 12) b (omega arith)))

-- an entry's three numbers in its place of the array, written one after the other
pub patch_entry : (s : List ℕ) (o : ℕ) (e : Entry) → o + 16 ≤ length s
    → patch (patch (patch s o (i64_bytes e.pair.sum)) (o + 8) (i32_bytes e.pair.count)) (o + 12) (u32_bytes e.child) ≡
    patch s o (entry_bytes e)
unfolding entry_bytes
patch_entry s o e h =
    let a : List ℕ = i64_bytes e.pair.sum in
    let b : List ℕ = i32_bytes e.pair.count in
    let c : List ℕ = u32_bytes e.child in
    ap (λ l. patch l (o + 12) c) (patch_patch_next s o a b (o + 8) (ap (λ k. o + k) (i64.length_bytes e.pair.sum)) (omega arith))
    ∙ patch_patch_next s o (a ++ b) c (o + 12) (ap (λ k. o + k) (length_ahead e)) (omega arith)
    ∙ ap (patch s o) (append_assoc a b c)
