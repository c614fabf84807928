-- A format that returned 0 leaves an image that agrees with the empty book. Assumes nothing.
use Prim.Native.Nat.{ℕ, zero, suc, ◌≤◌}
use mathlib.Core.Path.{◌≡◌, refl, sym, ap, ◌∙◌}
use mathlib.Core.Bool.{true, ◌&&◌, and-eq-true_iff}
use mathlib.Core.Logic.{inl}
use mathlib.Core.List.{List}
use native.Mathlib.Omega.{arith}
use lib.Dec.{leb-zero}
use borrow.Author.Tests.{not-false, ne_eqb, le-leb}
use Rattle.lists.specs.Lists.{concat_map, all_none, all_more}
use Rattle.rule.specs.declared.Pair.{Pair}
use Rattle.rule.specs.Time.{END, kind_ok, window_ok}
use Rattle.rule.specs.Pairs.{none, combine}
use Rattle.rule.proofs.Laws.{value_or_none_is}
use Rattle.page.specs.declared.Head.{Head}
use Rattle.page.specs.Entries.{entry, last_from, index_of}
use Rattle.page.specs.Fit.{most_height, field_ok}
use Rattle.image.specs.Images.{Image, capacity_field, pages_in, length_ok, image_of, image_bytes, fresh}
use Rattle.lists.specs.Lists.{times}
use Rattle.image.specs.Sound.{sound}
use Rattle.image.specs.Listing.{differ_after, neighbours_differ}
use Rattle.calls.specs.Calls.{head, format_status, format}
use Rattle.book.specs.Book.{empty_book, items_pair, book_pair}
use Rattle.tree.specs.Tree.{Node, Subtree, node_of, pair_under, pair_in, pages_under}
use Rattle.tree.specs.Shape.{done, more, Shaped, Leaf, root_least, Formed}
use Rattle.tree.specs.Runs.{runs_under, runs_in}
use Rattle.tree.proofs.Runs.{distinct_runs}
use Rattle.tree.specs.Conserved.{PathBounded, times_below, times_spare, held}
use Rattle.refinement.proofs.Fresh.{fresh_state, fresh_represented}
use Rattle.invariant.specs.Invariant.{Bounds, Structure, Invariant}
use Rattle.invariant.proofs.From.Invariant.{pages_range}
use Rattle.image.proofs.Capacity.{field_read}
use Rattle.image.proofs.Written.{bytes_written}
use Rattle.invariant.proofs.To.Sound.{head_read_back, invariant_sound, look_written}
use Rattle.calls.proofs.Rows.{first_none}
use Rattle.demands.proofs.Invariant.{TraceInvariant}

module _ (half pages kind window field : ℕ) (some : 1 ≤ half) (least : 2 ≤ pages) (most : pages ≤ 1024) (k : kind_ok kind ≡ true)
    (w : window_ok window ≡ true) (c : field_ok half field ≡ true) where
  abbrev X : Image
  X = fresh pages kind window field

  fresh_formed : Formed half Leaf fresh_state.tree
  unfolding Shaped root_least
  fresh_formed = record { least = omega arith; most = omega arith; spans = more {lo = 0} {mid = END} refl (omega arith) refl done }

  fresh_held : (p : ℕ) → 1 ≤ p → held p fresh_state ≡ 1
  unfolding held times_below times_spare times concat_map pages_under
  fresh_held zero l = absurd (omega arith)
  fresh_held (suc zero) l = refl
  fresh_held (suc (suc p)) l = rw (ne_eqb (suc (suc p)) 1 (λ e. omega arith), le-leb 2 (suc (suc p)) (omega arith))

  head_held : held 0 fresh_state ≡ 0
  unfolding held times_below times_spare times concat_map pages_under
  head_held = refl

  fresh_bounds : Bounds kind 0 fresh_state.tree
  unfolding PathBounded
  fresh_bounds =
      let x : Node (Subtree 0) = record { entry = entry 0 none 0; subtree = tt } in
      record {
        sums = λ one. all_more {x = x} (tt, omega arith) all_none;
        counts = λ one. all_more {x = x} (tt, omega arith) all_none;
        values = λ other. all_more {x = x} ((value_or_none_is none).1 (inl refl), omega arith) all_none;
      }

  fresh_structure : Structure half X.head.kind X.head.changes X fresh_state
  unfolding fresh
  fresh_structure =
      record {
        shown = fresh_represented pages kind window field;
        formed = fresh_formed;
        once = fresh_held;
        head_apart = head_held;
        kind_is = refl;
        bounds = fresh_bounds;
        changes_most = omega arith;
        ranges =
            record {
              pages_least = least;
              pages_most = most;
              mark_most = least;
              kind_fits = k;
              window_fits = w;
              field_fits = c;
            };
      }

  fresh_invariant : Invariant half X fresh_state
  unfolding runs_in runs_under concat_map neighbours_differ differ_after
  fresh_invariant =
      record {
        structure = fresh_structure;
        distinct = λ one. (distinct_runs half (combine X.head.kind) fresh_state.tree fresh_structure.formed).1 refl;
      }

  tall : X.head.height ≤ most_height
  unfolding fresh
  tall = omega arith

  fresh_pair : (rule : Pair → Pair → Pair) (t : ℕ) → pair_in rule 0 t fresh_state.tree.nodes ≡ none
  unfolding pair_in pair_under node_of index_of last_from
  fresh_pair rule t = rw (leb-zero t)

  pub field_fresh : capacity_field (image_bytes half X) ≡ field
  unfolding head image_of
  field_fresh =
      sym (field_read half (image_bytes half X) some)
      ∙ ap (λ (g : Head). g.capacity) (head_read_back half X fresh_state some fresh_structure tall)
      ∙ unfold fresh in refl

  pub kept_fresh : TraceInvariant half (image_bytes half X) (empty_book kind window)
  unfolding head image_of empty_book book_pair items_pair
  kept_fresh =
      let h = head_read_back half X fresh_state some fresh_structure tall in
      record {
        bytes = bytes_written half X;
        sound = invariant_sound half X fresh_state some fresh_invariant tall;
        kind = ap (λ (g : Head). g.kind) h ∙ unfold fresh in refl;
        window = ap (λ (g : Head). g.window) h ∙ unfold fresh in refl;
        changes = ap (λ (g : Head). g.changes) h ∙ unfold fresh in refl;
        pairs =
            λ t below.
            (look_written half X fresh_state some fresh_structure tall t).looked.pair ∙ fresh_pair _ t;
      }

-- ---- format

module _ (half kind window field : ℕ) (img : List ℕ) (n : (format half kind window field img).status ≡ 0) where
  record Formatted : Type 0 where
    length_fits : length_ok half img ≡ true
    kind_fits : kind_ok kind ≡ true
    window_fits : window_ok window ≡ true

  formatted : Formatted
  unfolding format format_status
  formatted =
      let a = first_none 16 _ _ (omega arith) n in
      let b = first_none 14 _ _ (omega arith) a.1 in
      let c = simp and-eq-true_iff at (not-false (kind_ok kind && window_ok window) b.0) in
      record { length_fits = not-false _ a.0; kind_fits = c.0; window_fits = c.1 }

  module _ (some : 1 ≤ half) (c : field_ok half field ≡ true) where
    pub kept_format : TraceInvariant half (format half kind window field img).image (empty_book kind window)
    unfolding format
    kept_format =
        let f = formatted in
        let r = pages_range half img f.length_fits in
        rw n (kept_fresh half (pages_in half img) kind window field some r.0 r.1 f.kind_fits f.window_fits c)

    pub field_format : capacity_field (format half kind window field img).image ≡ field
    unfolding format
    field_format =
        let f = formatted in
        let r = pages_range half img f.length_fits in
        rw n (field_fresh half (pages_in half img) kind window field some r.0 r.1 f.kind_fits f.window_fits c)
