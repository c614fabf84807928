-- Where a lookup stands on its way down, and what it has found when it comes back. Assumes nothing.
use mathlib.Core.Path.{◌≡◌, sym, ap, ◌∙◌}
use mathlib.Core.Bool.{true, false}
use mathlib.Core.List.{List}
use Prim.Native.Nat.{ℕ, suc, ◌+◌, ◌-◌, ◌≤◌}
use native.Mathlib.Omega.{arith}
use Rattle.rule.specs.declared.Pair.{Pair}
use Rattle.rule.specs.Pairs.{none, combine}
use Rattle.page.specs.declared.Entry.{Entry}
use Rattle.page.specs.declared.Head.{Head}
use Rattle.page.specs.Fit.{PageContext, root_context, context_under, page_fit}
use Rattle.page.proofs.Laws.Indices.{index_started}
use Rattle.fit.proofs.Laws.Paths.{root_path, path_bounded, below_path}
use Rattle.image.specs.Images.{page_at}
use Rattle.image.specs.Instant as image
use Rattle.image.specs.Instant.{stopped, leaf_answer, above, look, look_up}
use Rattle.access.specs.Access.{PageIn, OpenImage}
use Rattle.access.proofs.Laws.{opened_ranges, opened_within}
use Rattle.lookup.specs.declared.Holding.{Holding}
use Rattle.lookup.specs.declared.LookupAnswer.{LookupAnswer}
use Rattle.std.specs.Prelude.{Option, Some, None, option_map}
use Rattle.lookup.specs.Levels.{OnPath, ComeTo}
use Rattle.lookup.specs.Answers.{found_after, lookup_of, CombinableAbove}
use Rattle.lookup.proofs.Laws.Levels.{Found, found_fit, found_in, found_start, found_pair, found_child, found_context}
use Rattle.lookup.proofs.Laws.Bounds.{paired_combinable}
use Rattle.lookup.proofs.Laws.Looks.{look_unfit, look_leaf, look_inner, look_few, look_paired}

-- ---- an entry above what was found

one_more : (n : ℕ) → n + 1 ≡ suc n
one_more n = omega arith

module _ (comb : Pair → Pair → Pair) (p : Pair) where
  -- what was found below, with the entry's pair combined into it
  abbrev pub above_found : Option Holding → Option Holding
  above_found = option_map (λ (x : Holding). record { pair = comb p x.pair; start = x.start; end = x.end })

  pub found_above : (o : Option Holding) (n : ℕ) → found_after (above_found o) (n + 1) ≡ above comb p (found_after o n)
  unfolding above
  found_above (Some x) n = λ j. record { fit = true; pair = comb p x.pair; start = x.start; end = x.end; pages = one_more n j }
  found_above None n = λ j. record { fit = false; pair = none; start = 0; end = 0; pages = one_more n j }

-- ---- on the way down

module _ {half : ℕ} {img : List ℕ} {h : Head} (some : 1 ≤ half) (o : OpenImage half img h) where
  pub come_root : (t : ℕ) → ComeTo h (root_context h) h.root t
  unfolding root_context
  come_root t =
      let r = opened_ranges o in
      record { entries_above = 0; path = root_path _ _ h r; here = omega (arith, r.root_below, r.pages_is); begun = omega arith }

  -- from the root
  pub root_looked : (t : ℕ) → look half h img t (root_context h).level (root_context h) h.root ≡ look_up half img t
  unfolding look_up root_context
  root_looked t = ap (λ k. look half k img t (k.height - 1) (root_context k) k.root) o.shown

  module _ {at : PageContext} {p t : ℕ} (w : ComeTo h at p t) where
    pub come_within : PageIn half img p
    come_within = opened_within o p w.here

    pub come_on_path : OnPath at t
    come_on_path = record { begun = w.begun; bounded = path_bounded w.path (opened_ranges o).changes_most }

    pub unfit_looked : page_fit half h at (page_at half img p) ≡ false → lookup_of (record { found = None; pages = 1 }) ≡ look half h img t at.level at p
    unfolding lookup_of stopped
    unfit_looked e = sym (look_unfit half h img t at p at.level e)

    module _ {e : Entry} {end : ℕ} (f : Found half h at t (page_at half img p) e end) where
      pub leaf_looked : at.level ≡ 0
          → lookup_of (record { found = Some (record { pair = e.pair; start = e.start; end = end }); pages = 1 }) ≡ look half h img t at.level at p
      unfolding lookup_of leaf_answer
      leaf_looked z = sym (ap (λ l. look half h img t l at p) z ∙ look_leaf half h img t at p f)

      module _ (inner : 1 ≤ at.level) where
        abbrev under : PageContext
        under = context_under at e.start end e.pair

        pub come_below : ComeTo h under e.child t
        come_below =
            let s = page_at half img p in
            let fit = found_fit f in
            let m = found_in f (omega arith) in
            record {
              entries_above = w.entries_above + 1;
              path = rw (found_context f) (below_path w.path fit (omega arith) _ m inner);
              here = rw (found_child f) ((fit.children _ m).inner inner).1;
              begun = rw (found_start f) (index_started half s t fit.most (omega (arith, fit.first, w.begun)));
            }

        inner_by : (w : image.Lookup) → w ≡ look half h img t under.level under e.child
            → above (combine h.kind) e.pair w ≡ look half h img t at.level at p
        inner_by w below =
            let l : at.level ≡ suc (at.level - 1) = omega arith in
            ap (above (combine h.kind) e.pair) below
            ∙ sym (ap (λ k. look half h img t k at p) l ∙ look_inner half h img t at p f (at.level - 1))

        -- the page below is unfit
        pub unfit_below : page_fit half h under (page_at half img e.child) ≡ false
            → lookup_of (record { found = None; pages = 2 }) ≡ look half h img t at.level at p
        unfolding lookup_of above stopped
        unfit_below z = inner_by stopped (sym (look_unfit half h img t under e.child under.level z))

        module _ (r : LookupAnswer) (below : lookup_of r ≡ look half h img t under.level under e.child) where
          pub below_combinable : CombinableAbove e.pair r
          below_combinable =
              let m = found_in f (omega arith) in
              let fit = found_fit f in
              record {
                pairs = λ b.
                    let low = ap (λ (x : image.Lookup). x.fit) (sym below) ∙ b in
                    rw (ap (λ (x : image.Lookup). x.pair) below)
                    (paired_combinable {at = at} (rw (found_pair f) (fit.pairs _ m)) (look_paired half h img t some _ under e.child low)
                    (opened_ranges o).changes_most);
                pages = omega (
                  arith,
                  ap (λ (x : image.Lookup). x.pages) below,
                  look_few half h img t under.level under e.child,
                  w.path.level,
                );
              }

          pub inner_looked : above (combine h.kind) e.pair (lookup_of r) ≡ look half h img t at.level at p
          inner_looked = inner_by (lookup_of r) below
