-- The count from the root of a sound image. Assumes nothing.
use Prim.Native.Nat.{ℕ, zero, suc, ◌+◌, ◌-◌, ◌≤◌, ◌<◌}
use mathlib.Core.Path.{◌≡◌, refl, sym, ap, ◌∙◌, subst, subst⁻¹}
use mathlib.Core.Bool.{Bool, true, false, cond}
use mathlib.Core.List.{List}
use native.Mathlib.Omega.{arith}
use lib.Dec.{leb, ltb}
use borrow.Author.Tests.{le-leb, lt-leb}
use Rattle.fields.specs.Bytes.{Bytes}
use Rattle.rule.specs.Time.{END}
use Rattle.rule.specs.Pairs.{none}
use Rattle.page.specs.declared.Entry.{Entry}
use Rattle.page.specs.declared.Head.{Head}
use Rattle.page.specs.Entries.{entry}
use Rattle.page.specs.Fit.{root_context}
use Rattle.image.specs.Images.{Image, pages_in, image_of}
use Rattle.fit.proofs.Laws.Heads.{Ranges}
use Rattle.soundness.proofs.Sound.{the_head, FitImage, sound_facts}
use Rattle.steps.specs.Cut.{root_entry}
use Rattle.steps.specs.Change.{lacks_pages}
use Rattle.page_need.specs.declared.Need.{Need}
use Rattle.page_need.specs.Needs.{one_cut, both_cuts, cuts_need, with_new_root, pages_needed}
use Rattle.page_need.specs.Leads.{Small, FitFrom, Leads, SoundImage}
use Rattle.page_need.proofs.Held.{sound_holds}
use Rattle.page_need.proofs.Walks.{small_one, small_both}
use Rattle.page_need.proofs.Needed.{lacks_is}

-- ---- where both paths start

leads_from : (half : ℕ) (img : List ℕ) (t hi l : ℕ) (e : Entry) → 1 ≤ l → FitFrom half img t hi (l - 1) e.child
    → Leads half img t hi l e
unfolding Leads
leads_from half img t hi zero e h k = absurd (omega arith)
leads_from half img t hi (suc l) e h k =
    let d : suc l - 1 ≡ l = omega arith in
    subst (λ n. FitFrom half img t hi n e.child) d k

module _ {half : ℕ} {img : List ℕ} {h : Head} (o : SoundImage half img h) where
  facts : FitImage half img
  facts = (sound_facts half img o.sound).fit

  pub head_is : Ranges half (pages_in half img) h
  head_is = subst⁻¹ (Ranges half (pages_in half img)) o.shown facts.head

  root_leads : Bytes img → (t : ℕ) → Leads half img t END h.height (entry 0 none h.root)
  unfolding root_context
  root_leads bytes t =
      let f = facts in
      subst⁻¹ (λ (g : Head). Leads half img t END g.height (entry 0 none g.root)) o.shown
      (leads_from half img t END (the_head half img).height (entry 0 none (the_head half img).root) f.head.height_least
      (record {
        head = the_head half img;
        at = root_context (the_head half img);
        size = sym f.head.pages_is;
        holds = sound_holds o.half_least o.half_most img bytes o.sound;
        least = f.head.root_least;
        inside = omega (arith, f.head.root_below, f.head.pages_is);
        level = refl;
        low = omega (arith, f.head.height_least, f.head.height_most);
        begun = omega arith;
        ends = refl;
        fit = f.tree;
      }))

  pub opened_leads : Bytes img → (t : ℕ) {r : Entry} → r ≡ entry 0 none h.root → Leads half img t END h.height r
  opened_leads bytes t e = subst⁻¹ (Leads half img t END h.height) e (root_leads bytes t)

  -- ---- what is asked for

  module _ (s e : ℕ) {r : Entry} (root : r ≡ entry 0 none h.root) {n : Need} where
    pub asked_first : END ≤ e → n ≡ one_cut half s h.height r (image_of half img) → n ≡ cuts_need half s e (image_of half img)
    unfolding cuts_need root_entry image_of
    asked_first high same =
        rw (le-leb END e high)
        (same
        ∙ (ap (λ x. one_cut half s h.height x (image_of half img)) root
        ∙ ap (λ (g : Head). one_cut half s g.height (entry 0 none g.root) (image_of half img)) o.shown))

    pub asked_both : e < END → n ≡ both_cuts half s e h.height r (image_of half img) → n ≡ cuts_need half s e (image_of half img)
    unfolding cuts_need root_entry image_of
    asked_both low same =
        rw (lt-leb END e low)
        (same
        ∙ (ap (λ x. both_cuts half s e h.height x (image_of half img)) root
        ∙ ap (λ (g : Head). both_cuts half s e g.height (entry 0 none g.root) (image_of half img)) o.shown))

  pub asked_small : (s e : ℕ) {n : Need} → n ≡ cuts_need half s e (image_of half img) → Small n
  unfolding cuts_need image_of
  asked_small s e {n} same = go (leb END e) same
    where
      X : Image
      X = image_of half img

      go : (b : Bool)
          → n ≡ cond b (one_cut half s X.head.height (root_entry X) X) (both_cuts half s e X.head.height (root_entry X) X) → Small n
      go true f = small_one half X X.head.height (root_entry X) facts.head.height_most s f
      go false f = small_both half X X.head.height (root_entry X) facts.head.height_most s e f

  -- 24's condition
  pub lacks_asked : (s e : ℕ) {n : Need} → s < e → e ≤ END → n ≡ cuts_need half s e (image_of half img)
      → ltb (h.chain + (h.pages - h.mark)) (n.adds + n.pages) ≡ lacks_pages half s e (image_of half img)
  unfolding pages_needed with_new_root image_of
  lacks_asked s e {n} lt end same =
      ap (λ (g : Head). ltb (g.chain + (g.pages - g.mark)) (n.adds + n.pages)) o.shown
      ∙ (ap (λ (m : Need). ltb ((the_head half img).chain + ((the_head half img).pages - (the_head half img).mark)) (m.adds + m.pages)) same
      ∙ lacks_is o.half_least s e lt end img o.sound)
