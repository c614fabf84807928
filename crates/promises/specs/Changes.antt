-- Every accepted change, of what the functions for C promise: of any image at all, with no format and no call before it. Assumes nothing.
use Rattle.std.specs.Prelude.{ℕ, ◌<◌, ◌≤◌, ◌≡◌, ◌⊎◌, List, ℤ}
use Rattle.rule.specs.Time.{END, effect_end}
use Rattle.rule.specs.Pairs.{combine}
use Rattle.fields.specs.Bytes.{Bytes}
use Rattle.image.specs.Images.{half_of}
use Rattle.calls.specs.Changes.{Side, effect}
use Rattle.calls.specs.Calls.{head}
use Rattle.claims.specs.Accepted.{AcceptedChange}
use Rattle.luwhenoka.specs.declared.InstantAnswer.{InstantAnswer}
use Rattle.luwhenoka.specs.Answers.{pair_of}
use Rattle.luwhenoka.specs.Promises.{Books, Answers}

-- Enter or withdraw of v on [s, e) returned 0 and left the image `after`: what is so of its bytes, and what instant calls that are made on
-- both images answer. r is the later answer, q the earlier.
pub record ChangePromised (side : Side) (v : ℤ) (s e : ℕ) (img after : List ℕ) : Type 0 where
  pub leaves : AcceptedChange (half_of img) side v s e img after
  pub answered : (t : ℕ) (r : InstantAnswer) → t < END → Answers t after r → r.status ≡ 0
  pub statuses : (t : ℕ) (r q : InstantAnswer) → Answers t after r → Answers t img q → r.status ≡ q.status
  -- "alters no instant's pair outside its span (lengthened by the window)"
  pub outside :
      (t : ℕ) (r q : InstantAnswer) → (t < s) ⊎ (effect_end e (head (half_of img) img).window ≤ t)
      → Answers t after r → Answers t img q
      → pair_of r ≡ pair_of q
  -- "C. Combine the effect into [s, e')."
  pub inside :
      (t : ℕ) (r q : InstantAnswer) → s ≤ t → t < effect_end e (head (half_of img) img).window
      → Answers t after r → Answers t img q
      → pair_of r ≡ combine (head (half_of img) img).kind (pair_of q) (effect side v)

-- Any image that is lent is one of bytes: a slice of u8 holds nothing else.
unfoldable pub EveryChangePromised : Type 0
EveryChangePromised =
    (side : Side) (v : ℤ) (s e : ℕ) (img scratch after left : List ℕ)
    → Bytes img
    → Books side v s e img scratch 0 after left
    → ChangePromised side v s e img after
