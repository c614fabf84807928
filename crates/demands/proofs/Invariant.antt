-- What holds of an image and of its book after every list of calls, and that an accepted change keeps it: the image is sound, and each
-- instant's pair is the book's. Assumes nothing.
use Prim.Native.Nat.{ℕ, suc, ◌≤◌, ◌<◌}
use mathlib.Core.Path.{◌≡◌, sym, ap, ◌∙◌}
use mathlib.Core.Bool.{true, cond}
use mathlib.Core.List.{List}
use lib.IntN.{ℤ}
use lib.ListN.{length}
use Rattle.rule.specs.Time.{END, effect_end, covers}
use Rattle.rule.specs.Pairs.{combine}
use Rattle.fields.specs.Bytes.{Bytes}
use Rattle.image.specs.Sound.{sound}
use Rattle.image.specs.Instant.{look_up}
use Rattle.calls.specs.Refusals.{borrowed}
use Rattle.calls.specs.Changes.{Side, effect}
use Rattle.calls.specs.Calls.{head, book}
use Rattle.book.specs.Book.{Book, entered, book_pair}
use Rattle.demands.proofs.Book.Books.{entered_onto}
use Rattle.demands.proofs.Booked.{booked}

pub record TraceInvariant (half : ℕ) (img : List ℕ) (B : Book) : Type 0 where
  pub bytes : Bytes img
  pub sound : sound half img ≡ true
  pub kind : (head half img).kind ≡ B.kind
  pub window : (head half img).window ≡ B.window
  pub changes : (head half img).changes ≡ length B.items
  pub pairs : (t : ℕ) → t < END → (look_up half img t).pair ≡ book_pair B t

-- ---- one more change

module _ {half : ℕ} (two : 2 ≤ half) where
  module _ (side : Side) (v : ℤ) (s e : ℕ) {img : List ℕ} (scratch : List ℕ) {B : Book} (K : TraceInvariant half img B) where
    pub kept_accepted : (book borrowed half side v s e img scratch).status ≡ 0
        → TraceInvariant half (book borrowed half side v s e img scratch).image (entered 0 side v s e B)
    unfolding entered
    kept_accepted n =
        let c = booked two side v s e img scratch K.bytes n in
        record {
          bytes = c.bytes;
          sound = c.sound;
          kind = c.kind ∙ K.kind;
          window = c.window ∙ K.window;
          changes = c.changes ∙ ap suc K.changes;
          pairs =
              λ t below.
              c.pairs t below
              ∙ (λ i.
              cond (covers s (effect_end e (K.window i)) t) (combine (K.kind i) (K.pairs t below i) (effect side v))
              (K.pairs t below i))
              ∙ sym (entered_onto side v s e B t);
        }
