-- The calls as the index offers them: each is handed an image of any bytes, reads from it the capacity of its pages, and then is the call of
-- that capacity (Calls.antt). Document 02, (xi): "In an image K is read before the length is judged: under 40 bytes gives 16, a bad K 21
-- ahead of 16, scratch untouched". Assumes nothing.
use Rattle.std.specs.Prelude.{ℕ, ◌/◌, Bool, cond, not, List, [], ◌∷◌, length, eqb, ltb, ℤ}
use Rattle.rule.specs.declared.Average.TheVariants.{Nothing}
use Rattle.page.specs.Layout.{capacity_ok, capacity_named, no_field}
use Rattle.image.specs.Images.{capacity_field, half_of}
use Rattle.calls.specs.Changes.{Side}
use Rattle.calls.specs.Refusals.{first, borrowed}
use Rattle.calls.specs.Calls.{Formatted, Booked, Instant, Averaged, Listed, Audited, Rebuilt}
use Rattle.calls.specs.Calls.{format, book, no_instant, instant, average_at, listing, audit, rebuild}

-- the field names a capacity
unfoldable pub names_capacity : List ℕ → Bool
names_capacity img = capacity_ok (capacity_named (capacity_field img))

-- the rows ahead of all others
unfoldable pub judge : List ℕ → ℕ
judge img = first ((16, ltb (length img) 40) ∷ (21, not (names_capacity img)) ∷ [])

-- a call by half the capacity that the image names, or what it is if these rows turn it back
unfoldable pub judged : {A : Type 0} → (ℕ → A) → (ℕ → A) → List ℕ → A
judged refused call img =
    let number = judge img in
    cond (eqb number 0) (call (half_of img)) (refused number)

-- "An odd K or one outside its range gives 14 at format, ahead of 16." Format takes K, and writes it.
unfoldable pub index_format : ℕ → ℕ → ℕ → List ℕ → Formatted
index_format kind window k img = cond (capacity_ok k) (format (k / 2) kind window k img) (record { status = 14; image = img })

-- Document 01's own format, of before there was the field: "an image of 512-byte pages without the field (FF there) reads as K = 24".
unfoldable pub format_before : ℕ → ℕ → List ℕ → Formatted
format_before kind window img = format 12 kind window no_field img

unfoldable pub index_book : Side → ℤ → ℕ → ℕ → List ℕ → List ℕ → Booked
index_book side v s e img scratch =
    judged (λ number. record { status = number; image = img; scratch = scratch }) (λ half. book borrowed half side v s e img scratch) img

-- Enter and withdraw of before (vi), with a byte of scratch for each page; document 01: "Audit and changes borrow a scratch of n bytes".
unfoldable pub index_book_bytewise : Side → ℤ → ℕ → ℕ → List ℕ → List ℕ → Booked
index_book_bytewise side v s e img scratch =
    judged (λ number. record { status = number; image = img; scratch = scratch })
    (λ half. book (λ pages. pages) half side v s e img scratch) img

unfoldable pub index_instant : ℕ → List ℕ → Instant
index_instant t img = judged (λ number. no_instant number 0) (λ half. instant half t img) img

unfoldable pub index_average : ℕ → List ℕ → Averaged
index_average t img = judged (λ number. record { status = number; average = Nothing }) (λ half. average_at half t img) img

unfoldable pub index_listing : ℕ → ℕ → List ℕ → List ℕ → Listed
index_listing a b img out = judged (λ number. record { status = number; runs = 0; output = out }) (λ half. listing half a b img out) img

unfoldable pub index_audit : List ℕ → List ℕ → Audited
index_audit img scratch = judged (λ number. record { status = number; scratch = scratch }) (λ half. audit borrowed half img scratch) img

-- the audit of before (vi)
unfoldable pub index_audit_bytewise : List ℕ → List ℕ → Audited
index_audit_bytewise img scratch =
    judged (λ number. record { status = number; scratch = scratch }) (λ half. audit (λ pages. pages) half img scratch) img

-- "A rebuild keeps K, judges the target's length by it": the source is judged, and of the target only its length is looked at
unfoldable pub index_rebuild : List ℕ → List ℕ → List ℕ → Rebuilt
index_rebuild source target scratch =
    judged (λ number. record { status = number; target = target; scratch = scratch })
    (λ half. rebuild borrowed half source target scratch) source

-- and one that borrows a byte for each page, as calls did before (vi)
unfoldable pub index_rebuild_bytewise : List ℕ → List ℕ → List ℕ → Rebuilt
index_rebuild_bytewise source target scratch =
    judged (λ number. record { status = number; target = target; scratch = scratch })
    (λ half. rebuild (λ pages. pages) half source target scratch) source
