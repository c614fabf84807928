-- A root that collapses, and one that stays; and the whole step from the root. Assumes nothing.
use mathlib.Core.Path.{◌≡◌, sym, ap, ◌∙◌, subst, subst⁻¹}
use mathlib.Core.Bool.{Bool, true, false, cond, ◌&&◌, and-false}
use Prim.Native.Nat.{ℕ, ◌-◌, ◌<◌}
use native.Mathlib.Omega.{arith}
use lib.Dec.{eqb, ltb}
use lib.ListN.{length}
use borrow.Author.Tests.{lt-ltb, le-ltb, eq-eqb, ne_eqb}
use Rattle.rule.specs.Pairs.{combine}
use Rattle.page.specs.declared.Entry.{Entry}
use Rattle.page.specs.declared.Head.{Head}
use Rattle.page.specs.Entries.{at}
use Rattle.image.specs.Images.{Image, Cell, tree}
use Rattle.steps.specs.Supply.{entries, put, given_back, with_root}
use Rattle.steps.specs.Heal.{pushed, collapse_root, collapse_if_single, joins_edge, heal_page, heal}
use Rattle.store.specs.Preconditions.{TreePage, Givable}
use Rattle.heal.specs.Edges.{edge_met, EdgeReadable}
use Rattle.heal.specs.Healable.{PageHealable, CollapsibleIfSingle, Healable}

-- the head that was read leads to the root
module _ (X : Image) {h : Head} (e : h ≡ X.head) where
  pub read_root : {level : ℕ} → TreePage level X.head.root X → TreePage level h.root X
  read_root {level} t = subst (λ k. TreePage level k.root X) (sym e) t

  pub read_len : {n : ℕ} → n ≡ length (entries X h.root) → n ≡ length (entries X X.head.root)
  read_len n = n ∙ ap (λ k. length (entries X k.root)) e

  pub read_entry : {x : Entry} (i : ℕ) → x ≡ at (entries X h.root) i → x ≡ at (entries X X.head.root) i
  read_entry i x = x ∙ ap (λ k. at (entries X k.root) i) e

-- a page can be given back whatever was written
pub givable_put : {q : ℕ} {X : Image} → Givable q X → (p : ℕ) (cell : Cell) → Givable q (put p cell X)
unfolding put
givable_put g p cell = record { within = record { least = g.within.least; below = g.within.below }; room = g.room }

module _ (kind : ℕ) (X : Image) where
  abbrev root_entries : ℕ
  root_entries = length (entries X X.head.root)

  pub collapsed_low : X.head.height < 2 → X ≡ collapse_if_single (combine kind) X
  unfolding collapse_if_single
  collapsed_low h =
      ap (λ b. cond (b && eqb root_entries 1) (collapse_root (combine kind) X) X) (sym (le-ltb 1 X.head.height (omega arith)))

  pub collapsed_wide : (root_entries ≡ 1 → ⊥) → X ≡ collapse_if_single (combine kind) X
  unfolding collapse_if_single
  collapsed_wide h =
      let high : Bool = ltb 1 X.head.height in
      let e : high && eqb root_entries 1 ≡ false = ap (λ b. high && b) (ne_eqb root_entries 1 h) ∙ and-false high in
      ap (λ b. cond b (collapse_root (combine kind) X) X) (sym e)

  pub collapsed_collapse_root : 1 < X.head.height → root_entries ≡ 1
      → collapse_root (combine kind) X ≡ collapse_if_single (combine kind) X
  unfolding collapse_if_single
  collapsed_collapse_root h e =
      λ j. cond (sym (lt-ltb 1 X.head.height h) j && sym (eq-eqb root_entries 1 e) j) (collapse_root (combine kind) X) X

  -- the head that was read, and the root's entry
  pub collapse_root_is : {h : Head} {e : Entry} → h ≡ X.head → e ≡ at (entries X X.head.root) 0
      → with_root (h.height - 1) e.child
      (given_back h.root (put e.child (tree (X.head.height - 2) (pushed (combine kind) X e)) X))
      ≡ collapse_root (combine kind) X
  unfolding collapse_root
  collapse_root_is h e =
      λ j.
      with_root ((h j).height - 1) (e j).child
      (given_back (h j).root (put (e j).child (tree (X.head.height - 2) (pushed (combine kind) X (e j))) X))

-- ---- the step, by the head that was read and by what was told of the edge

module _ (half kind t : ℕ) {X : Image} (s : Healable half kind t X) {h : Head} (e : h ≡ X.head) where
  pub read_readable : eqb kind 1 ≡ true → EdgeReadable (combine kind) t (h.height - 1) h.root X
  read_readable totals = subst⁻¹ (λ (k : Head). EdgeReadable (combine kind) t (k.height - 1) k.root X) e (s.readable totals)

  module _ {edge : Bool} (told : edge ≡ (eqb kind 1 && edge_met (combine kind) t (h.height - 1) h.root X)) where
    joins : edge ≡ joins_edge (combine kind) t X
    joins = told ∙ ap (λ (k : Head). eqb kind 1 && edge_met (combine kind) t (k.height - 1) k.root X) e ∙ sym s.joins

    -- what the heal of the root leaves
    abbrev left_by : Bool → Head → Image
    left_by b k = heal_page half (combine kind) b t (k.height - 1) k.root X

    pub read_page : PageHealable half kind edge t (h.height - 1) h.root X
    read_page =
        subst⁻¹ (λ (k : Head). PageHealable half kind edge t (k.height - 1) k.root X) e
        (subst⁻¹ (λ b. PageHealable half kind b t (X.head.height - 1) X.head.root X) joins s.page)

    pub read_collapses : CollapsibleIfSingle (left_by edge h)
    read_collapses =
        subst⁻¹ (λ k. CollapsibleIfSingle (left_by edge k)) e
        (subst⁻¹ (λ b. CollapsibleIfSingle (left_by b X.head)) joins s.collapses)

    pub read_healed : collapse_if_single (combine kind) (left_by edge h) ≡ heal half (combine kind) t X
    unfolding heal
    read_healed = λ j. collapse_if_single (combine kind) (left_by (joins j) (e j))
