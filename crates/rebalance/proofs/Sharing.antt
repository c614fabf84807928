-- Two pages that share their entries anew: those of the second behind those of the first, or entries that go over one at a time.
-- Assumes nothing.
use mathlib.Core.Path.{◌≡◌, refl, sym, ap, ◌∙◌, subst}
use mathlib.Core.List.{List, [], ◌++◌, append-nil}
use Prim.Native.Nat.{ℕ, ◌+◌, ◌-◌, ◌≤◌, ◌<◌}
use native.Mathlib.Omega.{arith}
use native.Mathlib.Numerals.{add-one}
use lib.ListN.{length, take, drop, length-append, length-take, length-drop, take-append-drop}
use lib.Seq.{take_all, take_at, drop_at}
use Rattle.page.specs.declared.Entry.{Entry}
use Rattle.page.specs.Entries.{at, inserted}
use Rattle.lists.specs.Lists.{splice}
use Rattle.image.specs.Images.{Image, tree}
use Rattle.steps.specs.Supply.{entries, put}
use Rattle.store.specs.Encoding.{Encodes, PreLevel, PostLevel}
use Rattle.store.specs.Preconditions.{HasEntry, HasRoom}
use Rattle.store.proofs.Encoding.{from}
use Rattle.store.proofs.Supplying.{within_put}
use Rattle.rebalance.specs.Siblings.{TwoPages, Appendable, Sharable, Movable, Nearer, shared}
use Rattle.rebalance.proofs.Lists.{appended, over_left, over_right}
use Rattle.steps.proofs.Supply.{put_again, put_same}
use Rattle.rebalance.proofs.Puts.{put_both, entries_at, entries_else, tree_at, tree_else}

-- ---- all entries of page b behind those of page a

module _ (a b : ℕ) where
  -- the image once i of them are there
  abbrev pub appended_to : ℕ → ℕ → Image → Image
  appended_to i level X = put a (tree level (entries X a ++ take i (entries X b))) X

  module _ {half level : ℕ} {X : Image} (s : Appendable half level a b X) where
    other : b ≡ a → ⊥
    other e = s.pages.apart (sym e)

    appended_none : X ≡ appended_to 0 level X
    appended_none = sym (put_same X (s.pages.left.page ∙ ap (tree level) (sym (append-nil (entries X a)))))

    appended_count : (i : ℕ) → i ≤ length (entries X b) → length (entries (appended_to i level X) a) ≡ length (entries X a) + i
    appended_count i h =
        let ys = take i (entries X b) in
        omega (
          arith,
          ap length (entries_at a level (entries X a ++ ys) X),
          length-append (entries X a) ys,
          length-take i (entries X b),
        )

    appended_has : (i : ℕ) → i < length (entries X b) → HasEntry level b i (appended_to i level X)
    appended_has i h =
        record {
          tree_page = tree_else a _ X other s.pages.right;
          inside = omega (arith, ap length (entries_else a (tree level (entries X a ++ take i (entries X b))) X other));
        }

    appended_room : {m : ℕ} (i : ℕ) → m ≡ length (entries X a) → i < length (entries X b)
        → HasRoom half level a (m + i) (appended_to i level X)
    appended_room i e h =
        let n = appended_count i (omega arith) in
        record { tree_page = tree_at a level _ X s.pages.left.within; inside = omega arith; room = omega (arith, s.few) }

    appended_more : {m : ℕ} {e : Entry} (i : ℕ) → m ≡ length (entries X a) → i < length (entries X b)
        → e ≡ at (entries (appended_to i level X) b) i
        → put a (tree level (inserted (m + i) e (entries (appended_to i level X) a))) (appended_to i level X) ≡ appended_to (i + 1) level X
    appended_more {m} {e} i k h same =
        let read : e ≡ at (entries X b) i = same ∙ ap (λ ys. at ys i) (entries_else a _ X other) in
        put_again a _ _ X
        ∙ (λ j. put a (tree level (inserted (m + i) (read j) (entries_at a level (entries X a ++ take i (entries X b)) X j))) X)
        ∙ ap (λ ys. put a (tree level ys) X) (appended (entries X a) (entries X b) i (m + i) h (omega arith))
        ∙ ap (λ n. appended_to n level X) (sym (add-one i))

    appended_all : (i : ℕ) → length (entries X b) ≤ i → appended_to i level X ≡ put a (tree level (entries X a ++ entries X b)) X
    appended_all i h = ap (λ ys. put a (tree level (entries X a ++ ys)) X) (take_all i (entries X b) h)

  -- ---- that loop

  pub record Appending (half : ℕ) (img₀ : List ℕ) (m n : ℕ) (img : List ℕ) (i : ℕ) : Type 0 where
    pub same : length img ≡ length img₀
    pub holds : PostLevel half img₀ (λ v. Appendable half v a b)
        (λ v X. (m ≡ length (entries X a)) × (n ≡ length (entries X b)) × Encodes half img (appended_to i v X))

  pub append_none : {half : ℕ} {img : List ℕ} {m n : ℕ} → PostLevel half img (λ v. Appendable half v a b) (λ v X. m ≡ length (entries X a))
      → PostLevel half img (λ v. Appendable half v a b) (λ v X. n ≡ length (entries X b)) → Appending half img m n img 0
  append_none {half} {img} left right =
      record { same = omega arith; holds = λ X h v s. (left X h v s, right X h v s, subst (Encodes half img) (appended_none s) h) }

  module _ {half : ℕ} {img₀ img : List ℕ} {m n i : ℕ} (k : Appending half img₀ m n img i) (less : i < n) where
    pub append_has : PreLevel half img₀ (λ v. Appendable half v a b) → PreLevel half img (λ v. HasEntry v b i)
    append_has pre =
        from pre
        (λ X h s.
        let (left, right, holds) = k.holds X h s.0 s.1 in
        record { image = _; holds = holds; ready = (s.0, appended_has s.1 i (omega arith)) })

    pub append_room : PreLevel half img₀ (λ v. Appendable half v a b) → PreLevel half img (λ v. HasRoom half v a (m + i))
    append_room pre =
        from pre
        (λ X h s.
        let (left, right, holds) = k.holds X h s.0 s.1 in
        record { image = _; holds = holds; ready = (s.0, appended_room s.1 i left (omega arith)) })

    pub append_fits : PreLevel half img₀ (λ v. Appendable half v a b) → m + i ≤ 24
    append_fits pre =
        from pre (λ X h s. let (left, right, holds) = k.holds X h s.0 s.1 in omega (arith, s.1.few, h.half_most))

    pub append_more : {after : List ℕ} {e : Entry} → length after ≡ length img
        → PostLevel half img (λ v. HasEntry v b i) (λ v X. e ≡ at (entries X b) i)
        → PostLevel half img (λ v. HasRoom half v a (m + i))
        (λ v X. Encodes half after (put a (tree v (inserted (m + i) e (entries X a))) X))
        → Appending half img₀ m n after (i + 1)
    append_more {after} kept read g =
        record {
          same = kept ∙ k.same;
          holds =
              λ X h v s.
              let (left, right, holds) = k.holds X h v s in
              let inside : i < length (entries X b) = omega arith in
              let e = read _ holds v (appended_has s i inside) in
              (left, right, subst (Encodes half after) (appended_more s i left inside e) (g _ holds v (appended_room s i left inside)));
        }

  pub append_all : {half : ℕ} {img₀ img : List ℕ} {m n i : ℕ} → Appending half img₀ m n img i → n ≤ i
      → PostLevel half img₀ (λ v. Appendable half v a b) (λ v X. Encodes half img (put a (tree v (entries X a ++ entries X b)) X))
  append_all {half} {img = img} {i = i} k most X h v s =
      let (left, right, holds) = k.holds X h v s in
      subst (Encodes half img) (appended_all s i (omega arith)) holds

-- ---- entries that go over, one at a time

module _ {level a b : ℕ} {X : Image} (t : TwoPages level a b X) where
  abbrev all : List Entry
  all = entries X a ++ entries X b

  other_way : b ≡ a → ⊥
  other_way e = t.apart (sym e)

  module _ (k : ℕ) where
    abbrev then : Image
    then = shared level a b k X

    shared_left : entries then a ≡ take k all
    shared_left = entries_else b _ _ t.apart ∙ entries_at a level _ X

    shared_right : entries then b ≡ drop k all
    shared_right = entries_at b level _ _

    shared_all : entries then a ++ entries then b ≡ all
    shared_all = (λ j. shared_left j ++ shared_right j) ∙ take-append-drop k all

    shared_pages : TwoPages level a b then
    shared_pages =
        record {
          apart = t.apart;
          left = tree_else b _ _ t.apart (tree_at a level _ X t.left.within);
          right = tree_at b level _ _ (within_put t.right.within a _);
        }

    shared_again : (n : ℕ) → shared level a b n then ≡ shared level a b n X
    shared_again n =
        ap (λ es. put b (tree level (drop n es)) (put a (tree level (take n es)) then)) shared_all
        ∙ put_both a b _ _ _ X _

  shared_none : X ≡ shared level a b (length (entries X a)) X
  shared_none =
      let n = length (entries X a) in
      sym
      ((λ j.
      put b (tree level (drop_at (entries X a) (entries X b) n refl j))
      (put a (tree level (take_at (entries X a) (entries X b) n refl j)) X))
      ∙ ap (put b (tree level (entries X b))) (put_same X t.left.page) ∙ put_same X t.right.page)

-- ---- one of them

module _ {half level a b m k : ℕ} {X : Image} (s : Movable half level a b m k X) where
  abbrev pages : TwoPages level a b X
  pages = s.shares.pages

  -- page a gets the first entry of page b
  module _ (less : m < k) where
    pub first_there : HasEntry level b 0 X
    first_there = record { tree_page = pages.right; inside = omega (arith, s.has, s.shares.all) }

    pub last_fits : HasRoom half level a m X
    last_fits =
        record { tree_page = pages.left; inside = omega (arith, s.has); room = omega (arith, s.has, s.shares.first) }

    module _ {e : Entry} (same : e ≡ at (entries X b) 0) where
      abbrev longer : Image
      longer = put a (tree level (inserted m e (entries X a))) X

      pub first_goes : HasEntry level b 0 longer
      first_goes =
          let same : entries longer b ≡ entries X b = entries_else a _ X (other_way pages) in
          record {
            tree_page = tree_else a _ X (other_way pages) pages.right;
            inside = omega (arith, first_there.inside, ap length same);
          }

      pub went_left : put b (tree level (splice 0 [] (entries longer b))) longer ≡ shared level a b (m + 1) X
      went_left =
          let (gets, keeps) = over_left m (entries X a) (entries X b) s.has first_there.inside in
          ap (λ es. put b (tree level (splice 0 [] es)) longer) (entries_else a _ X (other_way pages))
          ∙ ap (λ x. put b (tree level (splice 0 [] (entries X b))) (put a (tree level (inserted m x (entries X a))) X)) same
          ∙ (λ j. put b (tree level (keeps j)) (put a (tree level (gets j)) X))
          ∙ ap (λ n. shared level a b n X) (sym (add-one m))

  -- page b gets the last entry of page a
  module _ (some : k ≤ m) where
    below : k < m
    below = omega (arith, s.differs)

    pub last_there : HasEntry level a (m - 1) X
    last_there = record { tree_page = pages.left; inside = omega (arith, s.has, below) }

    module _ {e : Entry} (same : e ≡ at (entries X a) (m - 1)) where
      abbrev shorter : Image
      shorter = put a (tree level (splice (m - 1) [] (entries X a))) X

      pub first_fits : HasRoom half level b 0 shorter
      first_fits =
          record {
            tree_page = tree_else a _ X (other_way pages) pages.right;
            inside = omega arith;
            room =
                omega (
                  arith,
                  s.has,
                  s.shares.rest,
                  below,
                  ap length (entries_else a (tree level (splice (m - 1) [] (entries X a))) X (other_way pages)),
                );
          }

      pub went_right : put b (tree level (inserted 0 e (entries shorter b))) shorter ≡ shared level a b (m - 1) X
      went_right =
          let (keeps, gets) = over_right (m - 1) (entries X a) (entries X b) (omega (arith, s.has, below)) in
          ap (λ es. put b (tree level (inserted 0 e es)) shorter) (entries_else a _ X (other_way pages))
          ∙ ap (λ x. put b (tree level (inserted 0 x (entries X b))) shorter) same
          ∙ (λ j. put b (tree level (gets j)) (put a (tree level (keeps j)) X))

-- an entry is read; a page is edited, and then the other
module _ {half : ℕ} {Reads Edits Then Start : ℕ → Image → Type 0} {img mid : List ℕ} {e : Entry} {here : Image → Entry}
    {to : ℕ → Image → Image}
    (read : PostLevel half img Reads (λ v X. e ≡ here X)) (edit : PostLevel half img Edits (λ v X. Encodes half mid (to v X)))
    (has : (v : ℕ) (X : Image) → Start v X → Reads v X) (can : (v : ℕ) (X : Image) → Start v X → Edits v X)
    (next : (v : ℕ) (X : Image) → Start v X → e ≡ here X → Then v (to v X)) where
  pub then_other : PreLevel half img Start → PreLevel half mid Then
  then_other pre =
      from pre
      (λ X h s.
      let (v, start) = s in
      record { image = _; holds = edit X h v (can v X start); ready = (v, next v X start (read X h v (has v X start))) })

  pub both_edited : {after : List ℕ} {other both : ℕ → Image → Image}
      → ((v : ℕ) (X : Image) → Start v X → e ≡ here X → other v (to v X) ≡ both v X)
      → PostLevel half mid Then (λ v X. Encodes half after (other v X)) → PostLevel half img Start (λ v X. Encodes half after (both v X))
  both_edited {after} done last X h v s =
      let r = read X h v (has v X s) in
      subst (Encodes half after) (done v X s r) (last _ (edit X h v (can v X s)) v (next v X s r))

-- ---- the loop: page a has m of all, and is to have k

module _ (a b k : ℕ) where
  pub record Sharing (half : ℕ) (img₀ img : List ℕ) (m : ℕ) : Type 0 where
    pub same : length img ≡ length img₀
    pub holds : PostLevel half img₀ (λ v. Sharable half v a b k)
        (λ v X. (m ≤ length (entries X a) + length (entries X b)) × Encodes half img (shared v a b m X))

  pub share_none : {half : ℕ} {img : List ℕ} {m : ℕ} → PostLevel half img (λ v. Sharable half v a b k) (λ v X. m ≡ length (entries X a))
      → Sharing half img img m
  share_none {half} {img} {m} count =
      record {
        same = omega arith;
        holds =
            λ X h v s.
            let n = count X h v s in
            (omega arith, subst (Encodes half img) (shared_none s.pages ∙ ap (λ n. shared v a b n X) (sym n)) h);
      }

  movable : {half v m : ℕ} {X : Image} → Sharable half v a b k X → m ≤ length (entries X a) + length (entries X b) → (m ≡ k → ⊥)
      → Movable half v a b m k (shared v a b m X)
  movable {v = v} {m} {X} s within apart =
      let es = entries X a ++ entries X b in
      let n = length-append (entries X a) (entries X b) in
      let l : length (entries (shared v a b m X) a) ≡ m =
      ap length (shared_left s.pages m) ∙ length-take m es ∙ omega arith in
      let r : m + length (entries (shared v a b m X) b) ≡ length es =
      ap (λ z. m + z) (ap length (shared_right s.pages m) ∙ length-drop m es) ∙ omega arith in
      record {
        shares =
            record {
              pages = shared_pages s.pages m;
              first = s.first;
              all = omega (arith, s.all);
              rest = omega (arith, s.rest);
            };
        has = sym l;
        differs = apart;
      }

  module _ {half : ℕ} {img₀ img : List ℕ} {m : ℕ} (now : Sharing half img₀ img m) (apart : m ≡ k → ⊥) where
    pub share_next : PreLevel half img₀ (λ v. Sharable half v a b k) → PreLevel half img (λ v. Movable half v a b m k)
    share_next pre =
        from pre
        (λ X h s.
        let (within, holds) = now.holds X h s.0 s.1 in
        record { image = _; holds = holds; ready = (s.0, movable s.1 within apart) })

    pub share_more : {after : List ℕ} {r : ℕ} → length after ≡ length img → Nearer m k r
        → PostLevel half img (λ v. Movable half v a b m k) (λ v X. Encodes half after (shared v a b r X)) → Sharing half img₀ after r
    share_more {after} {r} kept near g =
        record {
          same = kept ∙ now.same;
          holds =
              λ X h v s.
              let (within, holds) = now.holds X h v s in (
                omega (arith, near.most, s.all),
                subst (Encodes half after) (shared_again s.pages m r) (g _ holds v (movable s within apart)),
              );
        }

  pub share_all : {half : ℕ} {img₀ img : List ℕ} {m : ℕ} → Sharing half img₀ img m → m ≡ k
      → PostLevel half img₀ (λ v. Sharable half v a b k) (λ v X. Encodes half img (shared v a b k X))
  share_all {half} {img = img} now e X h v s = subst (Encodes half img) (ap (λ n. shared v a b n X) e) (now.holds X h v s).1
