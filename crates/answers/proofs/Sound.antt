-- On a sound image every instant and every span is answered. Assumes nothing.
use Prim.Native.Nat.{ℕ, ◌-◌, ◌<◌}
use mathlib.Core.Path.{◌≡◌}
use mathlib.Core.Bool.{true, and-eq-true_iff}
use mathlib.Core.List.{List}
use Rattle.rule.specs.Time.{END}
use Rattle.page.specs.declared.Head.{Head}
use Rattle.page.specs.Fit.{root_context}
use Rattle.image.specs.Images.{page_at}
use Rattle.image.specs.Sound.{sound_before}
use Rattle.image.specs.Instant.{look_up}
use Rattle.image.specs.Listing.{walk_over}
use Rattle.calls.specs.Calls.{head_ok, instant, listing}
use Rattle.book.specs.Book.{listing_of}
use Rattle.soundness.proofs.Tree.{top_fit}
use Rattle.soundness.proofs.Sound.{the_head, sound_facts, sound_whole}
use Rattle.answers.proofs.Look.{half_some, look_fit}
use Rattle.answers.proofs.Walk.{walk_fit}
use Rattle.answers.proofs.Calls.{Answered, answers, instant_pair}
use Rattle.answers.proofs.Agree.{listing_answered}

module _ (half : ℕ) (img : List ℕ) (fits : sound_before half img ≡ true) where
  pub sound_head : head_ok half img ≡ true
  unfolding head_ok
  sound_head = (sound_facts half img fits).fit.head_fits

  -- any instant and any span: the pages met are of the tree, also where the call turns its argument back
  pub sound_look : (t : ℕ) → (look_up half img t).fit ≡ true
  unfolding look_up
  sound_look t =
      let h : Head = the_head half img in
      let tree = (sound_facts half img fits).fit.tree in
      let some = half_some half h (page_at half img h.root) (top_fit half h img (h.height - 1) (root_context h) h.root tree) in
      look_fit half h img t some (h.height - 1) (root_context h) h.root tree

  pub sound_walk : (a b : ℕ) → (walk_over half img a b).fit ≡ true
  unfolding walk_over
  sound_walk a b =
      let h : Head = the_head half img in
      walk_fit half h img a b (h.height - 1) (root_context h) h.root (sound_facts half img fits).fit.tree

  -- no instant and no listing is turned back by the image
  pub sound_answered : (t : ℕ) → t < END → Answered half t img
  sound_answered t l =
      record { length_fits = sound_whole half img fits; before_end = l; head_fits = sound_head; look_fits = sound_look t }

  pub sound_status : (t : ℕ) → t < END → (instant half t img).status ≡ 0
  sound_status t l = answers half t img (sound_answered t l)

  pub sound_pair : (t : ℕ) → t < END → (instant half t img).pair ≡ (look_up half img t).pair
  sound_pair t l = instant_pair half t img (sound_answered t l)

  pub sound_listing : (a b : ℕ) (out : List ℕ) → listing half a b img out ≡ listing_of (λ t. (instant half t img).pair) a b out
  sound_listing a b out =
      listing_answered half a b img out (sound_whole half img fits)
      (λ _. (and-eq-true_iff (head_ok half img) (walk_over half img a b).fit).1 (sound_head, sound_walk a b))
