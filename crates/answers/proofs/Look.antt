-- What a lookup that met only fit pages says: its pair, and how many pages it read. Assumes nothing.
use Prim.Native.Nat.{ℕ, zero, suc, ◌≤◌, ◌<◌}
use mathlib.Core.Path.{◌≡◌, refl, ap, ◌∙◌}
use mathlib.Core.Bool.{Bool, true, cond}
use mathlib.Core.List.{List}
use native.Mathlib.Omega.{arith}
use Rattle.lists.proofs.Choices.{chose}
use Rattle.rule.specs.declared.Pair.{Pair}
use Rattle.rule.specs.Pairs.{none, combine}
use Rattle.page.specs.declared.Head.{Head}
use Rattle.page.specs.Entries.{index_of}
use Rattle.page.specs.Layout.{entry_count, start_at, pair_at, child_at, entries_of}
use Rattle.page.specs.Fit.{PageContext, root_context, end_at, context_below, page_fit}
use Rattle.fit.proofs.Laws.Parts.{fewest_pos}
use Rattle.fit.proofs.Laws.Pages.{page_fit_is}
use Rattle.image.specs.Images.{page_at}
use Rattle.image.specs.Sound.{tree_fit}
use Rattle.image.specs.Instant.{Lookup, stopped, leaf_answer, above, look_by, look}
use Rattle.image.proofs.Trails.{root_some}
use Rattle.soundness.proofs.Tree.{top_fit, tree_parts}
use Rattle.page.proofs.Laws.Indices.{index_within}

-- a fit root has an entry, so that a page can have one
pub half_some : (half : ℕ) (h : Head) (s : List ℕ) → page_fit half h (root_context h) s ≡ true → 1 ≤ half
half_some half h s e =
    let f = (page_fit_is half h (root_context h) s).0 e in
    omega (arith, root_some half h, f.least, f.most)

-- an answer: all pages on the path are fit, and the pair
pub record Found (r : Lookup) (p : Pair) : Type 0 where
  pub fit : r.fit ≡ true
  pub pair : r.pair ≡ p

went_on : (c : Bool) (r : Lookup) → (cond c r stopped).fit ≡ true → (c ≡ true) × (r.fit ≡ true)
unfolding stopped
went_on c r = chose (λ (w : Lookup). w.fit) c r refl

module _ (half : ℕ) (h : Head) (img : List ℕ) (t : ℕ) where
  -- ---- one page, by the entry that is found in it

  module _ (at : PageContext) (p i : ℕ) (fits : page_fit half h at (page_at half img p) ≡ true)
      (at_i : index_of t (entries_of half (page_at half img p)) ≡ i) where
    pub leaf_is : let s = page_at half img p in
        look half h img t zero at p ≡ leaf_answer (pair_at half s i) (start_at s i) (end_at s at.hi i)
    unfolding look_by
    leaf_is =
        let s : List ℕ = page_at half img p in
        let a : ℕ → Lookup = λ k. leaf_answer (pair_at half s k) (start_at s k) (end_at s at.hi k) in
        ap (λ c. cond c (a (index_of t (entries_of half s))) stopped) fits ∙ ap a at_i

    pub inner_is : (l : ℕ) → look half h img t (suc l) at p
        ≡ above (combine h.kind) (pair_at half (page_at half img p) i)
        (look half h img t l (context_below half (page_at half img p) at i) (child_at half (page_at half img p) i))
    unfolding look_by
    inner_is l =
        let s : List ℕ = page_at half img p in
        let a : ℕ → Lookup =
        λ k. above (combine h.kind) (pair_at half s k) (look half h img t l (context_below half s at k) (child_at half s k)) in
        ap (λ c. cond c (a (index_of t (entries_of half s))) stopped) fits ∙ ap a at_i

    pub found_leaf : Found (look half h img t zero at p) (pair_at half (page_at half img p) i)
    unfolding leaf_answer
    found_leaf = record { fit = ap (λ (r : Lookup). r.fit) leaf_is; pair = ap (λ (r : Lookup). r.pair) leaf_is }

    pub found_inner : (l : ℕ) {q : Pair}
        → Found (look half h img t l (context_below half (page_at half img p) at i) (child_at half (page_at half img p) i)) q
        → Found (look half h img t (suc l) at p) (combine h.kind (pair_at half (page_at half img p) i) q)
    unfolding above
    found_inner l {q} b =
        let s : List ℕ = page_at half img p in
        let r : Lookup = look half h img t l (context_below half s at i) (child_at half s i) in
        record {
          fit = ap (λ (r : Lookup). r.fit) (inner_is l) ∙ b.fit;
          pair =
              ap (λ (r : Lookup). r.pair) (inner_is l)
              ∙ ap (λ c. cond c (combine h.kind (pair_at half s i) r.pair) none) b.fit
              ∙ ap (combine h.kind (pair_at half s i)) b.pair;
        }

  -- the page on which a lookup begins
  pub look_top : (l : ℕ) (at : PageContext) (p : ℕ) → (look half h img t l at p).fit ≡ true → page_fit half h at (page_at half img p) ≡ true
  unfolding look_by
  look_top zero at p e = (went_on _ _ e).0
  look_top (suc l) at p e = (went_on _ _ e).0

  pub look_below : (l : ℕ) (at : PageContext) (p : ℕ) → (look half h img t (suc l) at p).fit ≡ true
      → (look half h img t l (context_below half (page_at half img p) at (index_of t (entries_of half (page_at half img p))))
      (child_at half (page_at half img p) (index_of t (entries_of half (page_at half img p))))).fit ≡ true
  unfolding look_by above
  look_below l at p e =
      let s : List ℕ = page_at half img p in
      let i : ℕ = index_of t (entries_of half s) in
      (went_on (page_fit half h at s)
      (above (combine h.kind) (pair_at half s i) (look half h img t l (context_below half s at i) (child_at half s i))) e).1

  pub look_pages : (l : ℕ) (at : PageContext) (p : ℕ) → (look half h img t l at p).fit ≡ true → (look half h img t l at p).pages ≡ suc l
  unfolding leaf_answer above
  look_pages zero at p e = ap (λ (r : Lookup). r.pages) (leaf_is at p _ (look_top zero at p e) refl)
  look_pages (suc l) at p e =
      ap (λ (r : Lookup). r.pages) (inner_is at p _ (look_top (suc l) at p e) refl l) ∙ ap suc (look_pages l _ _ (look_below l at p e))

  module _ (some : 1 ≤ half) where
    pub inside : (at : PageContext) (s : List ℕ) → page_fit half h at s ≡ true → index_of t (entries_of half s) < entry_count s
    inside at s e =
        let f = (page_fit_is half h at s).0 e in
        index_within half s t f.most (omega (arith, fewest_pos half at some, f.least))

    -- ---- where every page of the tree is fit

    pub look_fit : (l : ℕ) (at : PageContext) (p : ℕ) → tree_fit half h img l at p ≡ true → (look half h img t l at p).fit ≡ true
    look_fit zero at p e = (found_leaf at p _ (top_fit half h img zero at p e) refl).fit
    look_fit (suc l) at p e =
        let s : List ℕ = page_at half img p in
        let i : ℕ = index_of t (entries_of half s) in
        let top = top_fit half h img (suc l) at p e in
        let low = look_fit l (context_below half s at i) (child_at half s i) ((tree_parts half h img l at p e).1 i (inside at s top)) in
        (found_inner at p i top refl l (record { fit = low; pair = refl })).fit
