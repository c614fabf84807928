-- The start and the end that an instant tells are those of an entry of the leaf where its looks end. Assumes nothing.
use Prim.Native.Nat.{ℕ, zero, suc, ◌-◌, ◌≤◌}
use mathlib.Core.Path.{◌≡◌, refl, sym, ap, ◌∙◌, subst⁻¹}
use mathlib.Core.Bool.{true, true≢false}
use mathlib.Core.List.{List, [], ◌∷◌}
use native.Mathlib.Omega.{arith}
use Rattle.lists.proofs.Choices.{cond_one, chose}
use Rattle.rule.specs.Pairs.{combine}
use Rattle.page.specs.declared.Head.{Head}
use Rattle.page.specs.Entries.{index_of}
use Rattle.page.specs.Layout.{entry_count, pair_at, child_at, entries_of, head_of}
use Rattle.page.specs.Fit.{PageContext, root_context, context_below, fewest, page_fit}
use Rattle.image.specs.Images.{page_at}
use Rattle.image.specs.Instant.{Lookup, stopped, leaf_answer, above, look_by, look, look_up}
use Rattle.image.specs.Trail.{Visit, visits, trail, entry_of, instant_trail, LeafEntry}
use Rattle.image.proofs.Found.{room, found_within}
use Rattle.image.proofs.Trails.{each_one, up_to_all, look_told, root_some}

module _ (half : ℕ) (h : Head) (img : List ℕ) (t : ℕ) where
  leaf_met : (l : ℕ) (at : PageContext) (p : ℕ) → at.level ≡ l → 1 ≤ fewest half at → (look half h img t l at p).fit ≡ true
      → LeafEntry half img (visits half h img (entry_of half t) l at p) (look half h img t l at p).start (look half h img t l at p).end
  unfolding look_by leaf_answer stopped above visits entry_of context_below fewest
  leaf_met zero at p v some e =
      let s : List ℕ = page_at half img p in
      cond_one (λ (w : Lookup). w.fit ≡ true → LeafEntry half img (record { at = at; page = p } ∷ []) w.start w.end)
      (page_fit half h at s)
      (λ fits _.
      record {
        before = [];
        last = record { at = at; page = p };
        in_turn = refl;
        leaf = v;
        index = index_of t (entries_of half s);
        one = found_within half h at s some fits t;
        starts = refl;
        ends = refl;
      })
      (λ _ e. absurd (true≢false (sym e))) e
  leaf_met (suc l) at p v some e =
      let s : List ℕ = page_at half img p in
      let i : ℕ = index_of t (entries_of half s) in
      let d : PageContext = context_below half s at i in
      let w : Lookup = look half h img t l d (child_at half s i) in
      let a : Lookup = above (combine h.kind) (pair_at half s i) w in
      let went = chose (λ (w : Lookup). w.fit) (page_fit half h at s) a {y = stopped} refl e in
      let r = leaf_met l d (child_at half s i) (omega arith) (room half h at s some went.0) went.1 in
      let f : ℕ → List Visit = λ k. visits half h img (entry_of half t) l (context_below half s at k) (child_at half s k) in
      rw went.0
      (record {
        before = record { at = at; page = p } ∷ r.before;
        last = r.last;
        in_turn = ap (λ vs. record { at = at; page = p } ∷ vs)
            (each_one f i (entry_count s) (found_within half h at s some went.0 t) ∙ r.in_turn);
        leaf = r.leaf;
        index = r.index;
        one = r.one;
        starts = r.starts;
        ends = r.ends;
      })

pub instant_leaf : (half : ℕ) (img : List ℕ) (t : ℕ) → (look_up half img t).fit ≡ true
    → LeafEntry half img (instant_trail half t img) (look_up half img t).start (look_up half img t).end
unfolding look_up instant_trail trail root_context
instant_leaf half img t e =
    let h : Head = head_of (page_at half img 0) in
    let v : ℕ = h.height - 1 in
    let told = look_told half h img t v (root_context h) h.root (root_some half h) in
    let all = up_to_all half h img (visits half h img (entry_of half t) v (root_context h) h.root) (sym told.fit ∙ e) in
    subst⁻¹ (λ vs. LeafEntry half img vs (look_up half img t).start (look_up half img t).end) all
    (leaf_met half h img t v (root_context h) h.root refl (root_some half h) e)
