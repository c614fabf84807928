-- What an accepted change leaves, of every image. Assumes nothing.
use Prim.Native.Nat.{ℕ, ◌≤◌, ◌<◌}
use mathlib.Core.Path.{◌≡◌, sym, ap, ◌∙◌}
use mathlib.Core.Logic.{◌⊎◌}
use mathlib.Core.Bool.{Bool, true, false, cond}
use mathlib.Core.List.{List}
use native.Mathlib.Decide.{dec_le}
use native.Mathlib.Omega.{arith}
use lib.IntN.{ℤ}
use Rattle.rule.specs.declared.Pair.{Pair}
use Rattle.rule.specs.Time.{END, effect_end, covers}
use Rattle.rule.specs.Pairs.{combine}
use Rattle.rule.proofs.Window.{covers_is}
use Rattle.image.specs.Sound.{sound_before}
use Rattle.soundness.proofs.Sound.{sound_old}
use Rattle.image.specs.Instant.{look_up}
use Rattle.calls.specs.Refusals.{borrowed}
use Rattle.calls.specs.Changes.{Side, effect}
use Rattle.image.specs.Images.{half_of}
use Rattle.calls.specs.Calls.{Booked, Instant, head, book, instant}
use Rattle.calls.specs.Index.{index_book, index_instant}
use Rattle.claims.specs.Accepted.{AcceptedChange, EveryChange}
use Rattle.calls.proofs.Judged.{by_judge}
use Rattle.answers.proofs.Sound.{sound_status, sound_pair}
use Rattle.answers.proofs.Own.{Own, sound_own, judged_half, own_instant}
use Rattle.demands.proofs.Book.Spans.{covers_not}
use Rattle.demands.proofs.Book.Accepted.{passed}
use Rattle.demands.proofs.Booked.{LeftByChange, booked}
use Rattle.demands.proofs.Agree.{instant_end}

module _ {half : ℕ} (side : Side) (v : ℤ) (s e : ℕ) {img img' : List ℕ} (before : sound_before half img ≡ true)
    (c : LeftByChange half side v s e img img') where
  same_number : (t : ℕ) → (instant half t img').status ≡ (instant half t img).status
  same_number t = go (dec_le END t)
    where
      go : Dec (END ≤ t) → (instant half t img').status ≡ (instant half t img).status
      go (yes l) = (instant_end half img' (sound_old half img' c.sound) t l).0 ∙ sym (instant_end half img before t l).0
      go (no l) = sound_status half img' (sound_old half img' c.sound) t (omega arith) ∙ sym (sound_status half img before t (omega arith))

  -- inside the span and outside
  pair_by : (t : ℕ) (b : Bool) → t < END → covers s (effect_end e (head half img).window) t ≡ b
      → (instant half t img').pair ≡
      cond b (combine (head half img).kind (instant half t img).pair (effect side v)) (instant half t img).pair
  pair_by t b l k =
      sound_pair half img' (sound_old half img' c.sound) t l
      ∙ c.pairs t l
      ∙ ap (λ x. cond x (combine (head half img).kind (look_up half img t).pair (effect side v)) (look_up half img t).pair) k
      ∙ ap (λ (p : Pair). cond b (combine (head half img).kind p (effect side v)) p) (sym (sound_pair half img before t l))

  other_pair : (t : ℕ) → (t < s) ⊎ (effect_end e (head half img).window ≤ t) → (instant half t img').pair ≡ (instant half t img).pair
  other_pair t o = go (dec_le END t)
    where
      go : Dec (END ≤ t) → (instant half t img').pair ≡ (instant half t img).pair
      go (yes l) = (instant_end half img' (sound_old half img' c.sound) t l).1 ∙ sym (instant_end half img before t l).1
      go (no l) = pair_by t false (omega arith) (covers_not s (effect_end e (head half img).window) t o)

  -- by the capacity that the images name
  abbrev before_own : Own half img
  before_own = sound_own half img before

  abbrev after_own : Own half img'
  after_own = sound_own half img' (sound_old half img' c.sound)

  status_before : (t : ℕ) → (index_instant t img).status ≡ (instant half t img).status
  status_before t = ap (λ (a : Instant). a.status) (own_instant before_own t)

  status_after : (t : ℕ) → (index_instant t img').status ≡ (instant half t img').status
  status_after t = ap (λ (a : Instant). a.status) (own_instant after_own t)

  pair_before : (t : ℕ) → (index_instant t img).pair ≡ (instant half t img).pair
  pair_before t = ap (λ (a : Instant). a.pair) (own_instant before_own t)

  pair_after : (t : ℕ) → (index_instant t img').pair ≡ (instant half t img').pair
  pair_after t = ap (λ (a : Instant). a.pair) (own_instant after_own t)

  change_accepted : AcceptedChange half side v s e img img'
  unfolding effect_end
  change_accepted =
      record {
        sound_after = c.sound;
        changes = c.changes;
        kind = c.kind;
        window = c.window;
        size = c.size;
        capacity = c.capacity;
        bytes = c.bytes;
        answered = λ t l. status_after t ∙ sound_status half img' (sound_old half img' c.sound) t l;
        statuses = λ t. status_after t ∙ same_number t ∙ sym (status_before t);
        outside = λ t away. pair_after t ∙ other_pair t away ∙ sym (pair_before t);
        inside = λ t l h.
            pair_after t
            ∙ pair_by t true (omega arith) ((covers_is s (effect_end e (head half img).window) t).1 (l, h))
            ∙ ap (λ p. combine (head half img).kind p (effect side v)) (sym (pair_before t));
        unnamed = c.frame;
      }

-- a change that was accepted is one by the capacity that its image names
pub every_change : EveryChange
unfolding EveryChange index_book
every_change side v s e img scratch b =
    by_judge _ (λ half. book borrowed half side v s e img scratch) img
    (λ (r : Booked). r.status ≡ 0 → AcceptedChange (half_of img) side v s e img r.image)
    (λ g n.
    let two = (judged_half img g).named.least in
    change_accepted side v s e (sound_old (half_of img) img (passed (half_of img) side v s e img scratch n).whole)
    (booked two side v s e img scratch b n))
    (λ r n. absurd (r n))
