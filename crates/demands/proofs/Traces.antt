-- What a list of calls comes to: an image that agrees with the book of the changes accepted, each of them a booking as rows 11 and 22
-- ask. Assumes nothing.
use Prim.Native.Nat.{ℕ, ◌/◌, ◌≤◌}
use mathlib.Core.Path.{◌≡◌, refl, sym, ap, ◌∙◌, subst⁻¹}
use mathlib.Core.Bool.{Bool, true, false, cond, not, ◌&&◌}
use mathlib.Core.List.{List, [], ◌∷◌, ◌++◌, append-nil}
use native.Mathlib.Omega.{arith}
use lib.Dec.{eqb}
use Rattle.lists.specs.Lists.{All, all_none, all_more}
use Rattle.lists.proofs.All.{all_append}
use Rattle.calls.specs.Changes.{withdraws, Change}
use Rattle.page.specs.Layout.{capacity_ok, no_field, capacity_named}
use Rattle.page.specs.Fit.{field_ok}
use Rattle.page.proofs.Laws.Capacities.{capacity_is, own_field}
use Rattle.image.specs.Images.{capacity_field}
use Rattle.calls.specs.Calls.{Formatted, Booked, Rebuilt, format}
use Rattle.calls.specs.Index.{index_format, format_before, index_rebuild}
use Rattle.book.specs.Book.{Book, empty_book, entered, entered_all, book_of}
use Rattle.claims.specs.Trace.{Step, kept, accepted, Trace, formatted, formatted_before, extended, rebuilt}
use Rattle.soundness.proofs.Sound.{sound_old}
use Rattle.answers.proofs.Own.{sound_own, own_book, own_rebuild}
use Rattle.demands.specs.Items.{Spanned, Sided}
use Rattle.demands.proofs.Book.Books.{entered_all_append, book_is}
use Rattle.demands.proofs.Book.Accepted.{passed}
use Rattle.demands.proofs.Booked.{booked}
use Rattle.demands.proofs.Invariant.{TraceInvariant, kept_accepted}
use Rattle.demands.proofs.Fresh.{kept_format, field_format}
use Rattle.demands.proofs.Rebuilt.{target_is, kept_rebuilt, field_rebuilt}

pub record Reached (kind window field : ℕ) (img : List ℕ) (cs : List Change) : Type 0 where
  pub half : ℕ
  pub kept : TraceInvariant half img (book_of kind window cs)
  pub field_is : capacity_field img ≡ field
  pub spanned : All Spanned cs
  pub sided : All (Sided kind) cs

pub book_kind : (kind window : ℕ) (cs : List Change) → (book_of kind window cs).kind ≡ kind
book_kind kind window cs = ap (λ (B : Book). B.kind) (book_is kind window cs)

-- ---- where a list begins

reached_format : (half kind window field : ℕ) {img : List ℕ} (before : List ℕ) → 1 ≤ half → field_ok half field ≡ true
    → record { status = 0; image = img } ≡ format half kind window field before
    → Reached kind window field img []
unfolding book_of entered_all
reached_format half kind window field before some c p =
    let n = sym (ap (λ (f : Formatted). f.status) p) in
    let image = ap (λ (f : Formatted). f.image) p in
    record {
      half = half;
      kept =
          subst⁻¹ (λ x. TraceInvariant half x (empty_book kind window)) image (kept_format half kind window field before n some c);
      field_is = ap capacity_field image ∙ field_format half kind window field before n some c;
      spanned = all_none;
      sided = all_none;
    }

-- a format that was accepted took a capacity
accepted_capacity : (kind window k : ℕ) {img : List ℕ} (before : List ℕ) → record { status = 0; image = img } ≡ index_format kind window k before
    → (capacity_ok k ≡ true) × (record { status = 0; image = img } ≡ format (k / 2) kind window k before)
unfolding index_format
accepted_capacity kind window k {img} before p = go (capacity_ok k) p
  where
    go : (b : Bool) → record { status = 0; image = img } ≡ cond b (format (k / 2) kind window k before) (record { status = 14; image = before })
        → (b ≡ true) × (record { status = 0; image = img } ≡ format (k / 2) kind window k before)
    go true p = (refl, p)
    go false p = absurd (omega (arith, ap (λ (f : Formatted). f.status) p))

module _ {kind window : ℕ} where
  -- one more step, of each kind
  reached_step : {field : ℕ} {img after : List ℕ} {cs ds : List Change} → Reached kind window field img cs → Step img ds after
      → Reached kind window field after (cs ++ ds)
  unfolding book_of entered_all
  reached_step {field} {img} {cs = cs} R kept = subst⁻¹ (Reached kind window field img) (append-nil cs) R
  reached_step {img = img} {after} {cs} R (accepted {side = side} {v} {s} {e} scratch p) =
      let half = R.half in
      let o = sound_own half img (sound_old half img R.kept.sound) in
      let two = o.named.least in
      let q = p ∙ own_book o side v s e scratch in
      let n = sym (ap (λ (b : Booked). b.status) q) in
      let image = ap (λ (b : Booked). b.image) q in
      let a = passed half side v s e img scratch n in
      let c : Change = record { side = side; v = v; s = s; e = e } in
      let same_kind = R.kept.kind ∙ book_kind kind window cs in
      record {
        half = half;
        kept =
            subst⁻¹ (TraceInvariant half after) (entered_all_append cs (c ∷ []) (empty_book kind window))
            (subst⁻¹ (λ x. TraceInvariant half x (entered 0 side v s e (book_of kind window cs))) image
            (kept_accepted two side v s e scratch R.kept n));
        field_is = ap capacity_field image ∙ (booked two side v s e img scratch R.kept.bytes n).capacity ∙ R.field_is;
        spanned = all_append R.spanned (all_more {x = c} a.span all_none);
        sided = all_append R.sided (all_more {x = c} (ap (λ k. withdraws side && not (eqb k 1)) (sym same_kind) ∙ a.sided) all_none);
      }

  -- the target of a rebuild goes on where its source is
  reached_rebuilt : {field : ℕ} {source img left : List ℕ} {cs : List Change} (target scratch : List ℕ)
      → Reached kind window field source cs
      → record { status = 0; target = img; scratch = left } ≡ index_rebuild source target scratch
      → Reached kind window (capacity_named field) img cs
  reached_rebuilt {field} {source} {img} {left} {cs} target scratch R p =
      let half = R.half in
      let o = sound_own half source (sound_old half source R.kept.sound) in
      let q = p ∙ own_rebuild o target scratch in
      let n = sym (ap (λ (b : Rebuilt). b.status) q) in
      let image = ap (λ (b : Rebuilt). b.target) q ∙ target_is half source target scratch n in
      record {
        half = half;
        kept = subst⁻¹ (λ x. TraceInvariant half x (book_of kind window cs)) image (kept_rebuilt half source target scratch n R.kept);
        field_is = ap capacity_field image ∙ field_rebuilt half source target scratch n ∙ ap capacity_named R.field_is;
        spanned = R.spanned;
        sided = R.sided;
      }

  pub reached : {field : ℕ} {img : List ℕ} {cs : List Change} → Trace kind window field img cs → Reached kind window field img cs
  reached (formatted {k} before p) =
      let a = accepted_capacity kind window k before p in
      reached_format (k / 2) kind window k before (omega (arith, (capacity_is a.0).half_least)) (own_field k a.0) a.1
  reached (formatted_before before p) =
      unfold format_before field_ok capacity_named capacity_ok in reached_format 12 kind window no_field before (omega arith) refl p
  reached (extended T step) = reached_step (reached T) step
  reached (rebuilt target scratch T p) = reached_rebuilt target scratch (reached T) p
