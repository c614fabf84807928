-- Combining an effect into a span does to the tree that an image shows what it does to trees. Assumes nothing.
use Prim.Native.Nat.{ℕ, zero, suc, ◌≤◌}
use mathlib.Core.Path.{◌≡◌, refl, sym, ap, ◌∙◌}
use mathlib.Core.Bool.{Bool, true, false, cond}
use mathlib.Core.List.{List, [], ◌∷◌, ◌++◌}
use native.Mathlib.Omega.{arith}
use Rattle.lists.specs.Lists.{All, all_none, all_more}
use Rattle.lists.proofs.Choices.{cond_one}
use Rattle.lists.proofs.All.{all_head, all_tail}
use Rattle.lists.proofs.Times.{times_cons, times_none, times_append}
use Rattle.rule.specs.declared.Pair.{Pair}
use Rattle.rule.specs.Time.{END, overlaps}
use Rattle.page.specs.declared.Entry.{Entry}
use Rattle.page.specs.declared.Head.{Head}
use Rattle.page.specs.Entries.{entry}
use Rattle.image.specs.Images.{Image, tree}
use Rattle.lists.specs.Lists.{times}
use Rattle.steps.specs.Supply.{put}
use Rattle.steps.specs.Combine.{inside, next_start, took, sent, combine_entries, combine_over, combine_page, combine_span as combine_span_x}
use Rattle.steps.proofs.Supply.{put_head}
use Rattle.tree.specs.Tree.{Node, Subtree, Nodes, flat, pages_under}
use Rattle.tree.specs.Cut.{State, root_node}
use Rattle.tree.specs.Combine.{with_ends, combine_node, combine_nodes, combine_span}
use Rattle.tree.specs.Conserved.{times_below, held}
use Rattle.refinement.specs.Represents.{Stores, Represents, Once}
use Rattle.refinement.proofs.Below.{under_zero, under_suc, below_cons}
use Rattle.refinement.proofs.Moves.{Frame, put_else, stores_move, all_stores, put_stores, same_stores, same_under, supplied_move}
use Rattle.refinement.proofs.Stepped.{held_is, once_is}
use Rattle.refinement.proofs.Paths.{from_root, entries_are, subtrees_represented}

-- What a step does to an entry and the pages below it, W the pages that may be written. The head stays.
pub record Sent (l : ℕ) (X X' : Image) (x x' : Node (Subtree l)) (W : List ℕ) : Type 0 where
  pub shows : Stores l X'.page x'
  pub frame : Frame X.page X'.page (λ q. times q W)
  pub head : X'.head ≡ X.head
  pub pages : (q : ℕ) → times q (pages_under l x') ≡ times q (pages_under l x)

-- the same of a list of entries
pub record Walked (l : ℕ) (X X' : Image) (es es' : Nodes l) (W : List ℕ) : Type 0 where
  pub shows : All (λ y. Stores l X'.page y) es'
  pub frame : Frame X.page X'.page (λ q. times q W)
  pub head : X'.head ≡ X.head
  pub pages : (q : ℕ) → times_below l q es' ≡ times_below l q es

-- the pages of each entry and its end, one after the other
unfoldable pub over_ends : {A : Type 0} → (ℕ → Node A → List ℕ) → ℕ → List (Node A) → List ℕ
over_ends f hi [] = []
over_ends f hi (x ∷ xs) = f (next_start hi (flat xs)) x ++ over_ends f hi xs

-- the pages written below an entry that ends at hi
unfoldable pub sent_in : (s e l : ℕ) → ℕ → Node (Subtree l) → List ℕ
sent_in s e zero hi x = []
sent_in s e (suc l) hi x =
    cond (inside s e x.entry.start hi) []
    (cond (overlaps s e x.entry.start hi) (x.entry.child ∷ over_ends (λ h y. sent_in s e l h y) hi x.subtree) [])

-- and below the entries of a page
abbrev pub sent_below : (s e l hi : ℕ) → Nodes l → List ℕ
sent_below s e l hi es = over_ends (λ h y. sent_in s e l h y) hi es

ends_within : (s e l q : ℕ) → ((hi : ℕ) (x : Node (Subtree l)) → times q (sent_in s e l hi x) ≤ times q (pages_under l x))
    → (hi : ℕ) (es : Nodes l)
    → times q (sent_below s e l hi es) ≤ times_below l q es
unfolding over_ends
ends_within s e l q within hi [] = omega (arith, times_none q)
ends_within s e l q within hi (x ∷ xs) =
    let end = next_start hi (flat xs) in
    let r : times q (sent_below s e l hi xs) ≤ times_below l q xs = ends_within s e l q within hi xs in
    omega (arith, times_append q (sent_in s e l end x) (sent_below s e l hi xs), within end x, below_cons l q x xs)

pub sent_within : (s e l q hi : ℕ) (x : Node (Subtree l)) → times q (sent_in s e l hi x) ≤ times q (pages_under l x)
unfolding sent_in
sent_within s e zero q hi x = omega (arith, times_none q)
sent_within s e (suc l) q hi x =
    let below = sent_below s e l hi x.subtree in
    let r : times q below ≤ times_below l q x.subtree = ends_within s e l q (λ h y. sent_within s e l q h y) hi x.subtree in
    let few : (ps : List ℕ) → Type 0 = λ ps. times q ps ≤ times q (pages_under (suc l) x) in
    cond_one few (inside s e x.entry.start hi) (λ h. omega (arith, times_none q))
    (λ h. cond_one few (overlaps s e x.entry.start hi)
    (λ h. omega (arith, times_cons q x.entry.child below, under_suc l q x)) (λ h. omega (arith, times_none q)))

module _ (◌⊕◌ : Pair → Pair → Pair) (s e : ℕ) (effect : Pair) where
  -- what a page of level l sends below
  unfoldable pub below_of : ℕ → ℕ → ℕ → Image → Image
  below_of zero end q Y = Y
  below_of (suc l) end q Y = combine_page ◌⊕◌ s e effect l end q Y

  page_over : (l hi p : ℕ) (X : Image) → combine_page ◌⊕◌ s e effect l hi p X ≡ combine_over ◌⊕◌ s e effect l (below_of l) hi p X
  unfolding combine_page below_of
  page_over zero hi p X = refl
  page_over (suc l) hi p X = refl

  took_child : (hi : ℕ) (x : Entry) → (took ◌⊕◌ s e effect hi x).child ≡ x.child
  unfolding took
  took_child hi x = cond_one (λ (y : Entry). y.child ≡ x.child) (inside s e x.start hi) (λ e. refl) (λ e. refl)

  pub entry_same : (l hi : ℕ) (x : Node (Subtree l)) → (combine_node ◌⊕◌ s e effect l hi x).entry ≡ took ◌⊕◌ s e effect hi x.entry
  unfolding combine_node
  entry_same zero hi x = refl
  entry_same (suc l) hi x = refl

  abbrev pub new : (l hi : ℕ) → Nodes l → Nodes l
  new l hi es = with_ends (λ h y. combine_node ◌⊕◌ s e effect l h y) hi es

  became_is : (l hi : ℕ) (es : Nodes l) (X : Image)
      → (combine_entries ◌⊕◌ s e effect (below_of l) hi (flat es) X).became ≡ flat (new l hi es)
  unfolding combine_entries with_ends
  became_is l hi [] X = refl
  became_is l hi (x ∷ xs) X =
      let end = next_start hi (flat xs) in
      ap (λ (r : List Entry). took ◌⊕◌ s e effect end x.entry ∷ r)
      (became_is l hi xs (sent ◌⊕◌ s e effect (below_of l) end x.entry X))
      ∙ ap (λ (y : Entry). y ∷ flat (new l hi xs)) (sym (entry_same l end x))

  abbrev pub SentIs : (l hi : ℕ) → Node (Subtree l) → Image → Type 0
  SentIs l hi x X = Sent l X (sent ◌⊕◌ s e effect (below_of l) hi x.entry X) x (combine_node ◌⊕◌ s e effect l hi x) (sent_in s e l hi x)

  abbrev WalkIs : (l hi : ℕ) → Nodes l → Image → Type 0
  WalkIs l hi es X =
      Walked l X (combine_entries ◌⊕◌ s e effect (below_of l) hi (flat es) X).image es (new l hi es) (sent_below s e l hi es)

  abbrev PageIs : (l hi : ℕ) → Node (Subtree (suc l)) → Image → Type 0
  PageIs l hi x X =
      Sent (suc l) X (combine_page ◌⊕◌ s e effect l hi x.entry.child X) x (record { entry = x.entry; subtree = new l hi x.subtree })
      (x.entry.child ∷ sent_below s e l hi x.subtree)

  walk_none : (l hi : ℕ) (X : Image) → WalkIs l hi [] X
  unfolding combine_entries with_ends
  walk_none l hi X = record { shows = all_none; frame = λ q h. refl; head = refl; pages = λ q. refl }

  walk_more : (l hi : ℕ) (x : Node (Subtree l)) (xs : Nodes l) (X : Image)
      → All (λ y. Stores l X.page y) (x ∷ xs)
      → ((q : ℕ) → times_below l q (x ∷ xs) ≤ 1)
      → ((h : ℕ) → SentIs l h x X)
      → ((Z : Image) → All (λ y. Stores l Z.page y) xs → WalkIs l hi xs Z)
      → WalkIs l hi (x ∷ xs) X
  unfolding combine_entries with_ends over_ends
  walk_more l hi x xs X a once f g =
      let end = next_start hi (flat xs) in
      let Z = sent ◌⊕◌ s e effect (below_of l) end x.entry X in
      let x' = combine_node ◌⊕◌ s e effect l end x in
      let W = sent_in s e l end x in
      let U = sent_below s e l hi xs in
      let u : SentIs l end x X = f end in
      let v : WalkIs l hi xs Z =
      g Z (all_stores l (λ q. times q W) u.frame (all_tail a)
      (λ q. omega (arith, once q, below_cons l q x xs, sent_within s e l q end x))) in
      record {
        shows =
            all_more
            (stores_move l (λ q. times q U) v.frame x' u.shows
            (λ q. omega (arith, once q, below_cons l q x xs, u.pages q, ends_within s e l q (λ h y. sent_within s e l q h y) hi xs)))
            v.shows;
        frame = λ q h. v.frame q (omega (arith, h, times_append q W U)) ∙ u.frame q (omega (arith, h, times_append q W U));
        head = v.head ∙ u.head;
        pages = λ q. omega (arith, below_cons l q x xs, below_cons l q x' (new l hi xs), u.pages q, v.pages q);
      }

  walk : (l hi : ℕ)
      → ((h : ℕ) (x : Node (Subtree l)) (X : Image) → Stores l X.page x → ((q : ℕ) → times q (pages_under l x) ≤ 1) → SentIs l h x X)
      → (es : Nodes l) (X : Image)
      → All (λ y. Stores l X.page y) es
      → ((q : ℕ) → times_below l q es ≤ 1)
      → WalkIs l hi es X
  walk l hi each [] X a once = walk_none l hi X
  walk l hi each (x ∷ xs) X a once =
      walk_more l hi x xs X a once (λ h. each h x X (all_head a) (λ q. omega (arith, once q, below_cons l q x xs)))
      (λ Z b. walk l hi each xs Z b (λ q. omega (arith, once q, below_cons l q x xs)))

  -- a page and the entries below it
  paged : (l hi : ℕ) (x : Node (Subtree (suc l))) (X : Image) → Stores (suc l) X.page x → ((q : ℕ) → times q (pages_under (suc l) x) ≤ 1)
      → WalkIs l hi x.subtree X
      → PageIs l hi x X
  unfolding combine_over
  paged l hi x X shown once w =
      rw (page_over l hi x.entry.child X, entries_are l X x shown, became_is l hi x.subtree X)
      (go (combine_entries ◌⊕◌ s e effect (below_of l) hi (flat x.subtree) X).image w)
    where
      go : (Z : Image) → Walked l X Z x.subtree (new l hi x.subtree) (sent_below s e l hi x.subtree)
          → Sent (suc l) X (put x.entry.child (tree l (flat (new l hi x.subtree))) Z) x
          (record { entry = x.entry; subtree = new l hi x.subtree }) (x.entry.child ∷ sent_below s e l hi x.subtree)
      go Z w =
          let p = x.entry.child in
          let c = tree l (flat (new l hi x.subtree)) in
          let U = sent_below s e l hi x.subtree in
          record {
            shows = put_stores l Z x.entry (new l hi x.subtree) w.shows (λ q. omega (arith, once q, under_suc l q x, w.pages q));
            frame = λ q h. put_else p c Z q (omega (arith, h, times_cons q p U)) ∙ w.frame q (omega (arith, h, times_cons q p U));
            head = put_head p c Z ∙ w.head;
            pages = λ q. omega (
              arith,
              under_suc l q x,
              under_suc l q (record { entry = x.entry; subtree = new l hi x.subtree }),
              w.pages q,
            );
          }

  -- an entry, by what it sends below
  sent_none : (hi : ℕ) (x : Node (Subtree 0)) (X : Image) → SentIs 0 hi x X
  unfolding sent below_of Stores
  sent_none hi x X =
      let still : (Z : Image) → Type 0 = λ Z. Sent 0 X Z x (combine_node ◌⊕◌ s e effect 0 hi x) (sent_in s e 0 hi x) in
      let same : still X =
      record {
        shows = tt;
        frame = λ q h. refl;
        head = refl;
        pages =
            λ q. omega (arith, under_zero q x, under_zero q (combine_node ◌⊕◌ s e effect 0 hi x));
      } in
      cond_one still (inside s e x.entry.start hi) (λ h. same)
      (λ h. cond_one still (overlaps s e x.entry.start hi) (λ h. same) (λ h. same))

  sent_up : (l hi : ℕ) (x : Node (Subtree (suc l))) (X : Image) → Stores (suc l) X.page x
      → PageIs l hi x X
      → SentIs (suc l) hi x X
  unfolding sent below_of combine_node sent_in
  sent_up l hi x X shown w = go (inside s e x.entry.start hi) (overlaps s e x.entry.start hi)
    where
      E : Entry
      E = took ◌⊕◌ s e effect hi x.entry

      c : E.child ≡ x.entry.child
      c = took_child hi x.entry

      still : Sent (suc l) X X x (record { entry = E; subtree = x.subtree }) []
      still = record {
        shows = same_stores (suc l) x E c X.page shown;
        frame = λ q h. refl;
        head = refl;
        pages =
            same_under (suc l) x E c;
      }

      x' : Node (Subtree (suc l))
      x' = record { entry = x.entry; subtree = new l hi x.subtree }

      Z : Image
      Z = combine_page ◌⊕◌ s e effect l hi x.entry.child X

      U : List ℕ
      U = x.entry.child ∷ sent_below s e l hi x.subtree

      below : Sent (suc l) X Z x (record { entry = E; subtree = new l hi x.subtree }) U
      below =
          record {
            shows = same_stores (suc l) x' E c Z.page w.shows;
            frame = w.frame;
            head = w.head;
            pages = λ q. same_under (suc l) x' E c q ∙ w.pages q;
          }

      go : (a b : Bool)
          → Sent (suc l) X (cond a X (cond b Z X)) x
          (record { entry = E; subtree = cond a x.subtree (cond b (new l hi x.subtree) x.subtree) }) (cond a [] (cond b U []))
      go true b = still
      go false true = below
      go false false = still

  pub sent_is : (l hi : ℕ) (x : Node (Subtree l)) (X : Image) → Stores l X.page x → ((q : ℕ) → times q (pages_under l x) ≤ 1)
      → SentIs l hi x X
  sent_is zero hi x X shown once = sent_none hi x X
  sent_is (suc l) hi x X shown once =
      sent_up l hi x X shown
      (paged l hi x X shown once
      (walk l hi (λ h y Z a b. sent_is l h y Z a b) x.subtree X (subtrees_represented l X x shown)
      (λ q. omega (arith, once q, under_suc l q x))))

  -- ---- from the root

  module _ (X : Image) (Y : State) (sh : Represents X Y) (once : Once Y) where
    pub combine_root : Sent (suc Y.tree.level) X (combine_span_x ◌⊕◌ s e effect X) (root_node Y.tree)
        (record { entry = (root_node Y.tree).entry; subtree = new Y.tree.level END Y.tree.nodes })
        (Y.tree.root ∷ sent_below s e Y.tree.level END Y.tree.nodes)
    unfolding combine_span_x root_node
    combine_root =
        let l = Y.tree.level in
        let x = root_node Y.tree in
        let few : (q : ℕ) → times q (pages_under (suc l) x) ≤ 1 = λ q. omega (arith, held_is q Y, once_is Y once q) in
        rw (from_root sh (λ n p. combine_page ◌⊕◌ s e effect n END p X))
        (paged l END x X sh.below few
        (walk l END (λ h y Z a b. sent_is l h y Z a b) Y.tree.nodes X (subtrees_represented l X x sh.below)
        (λ q. omega (arith, few q, under_suc l q x))))

    pub combine_represented : Represents (combine_span_x ◌⊕◌ s e effect X) (combine_span ◌⊕◌ s e effect Y)
    unfolding combine_span combine_nodes root_node
    combine_represented =
        let l = Y.tree.level in
        let d = combine_root in
        let U = sent_below s e l END Y.tree.nodes in
        record {
          height = ap (λ (h : Head). h.height) d.head ∙ sh.height;
          root = ap (λ (h : Head). h.root) d.head ∙ sh.root;
          below = d.shows;
          supplied =
              supplied_move (λ q. times q (Y.tree.root ∷ U)) d.head d.frame sh.supplied
              (λ q.
              omega (
                arith,
                times_cons q Y.tree.root U,
                ends_within s e l q (λ h y. sent_within s e l q h y) END
                    Y.tree.nodes,
                held_is q Y,
                under_suc l q (root_node Y.tree),
                once_is Y once q,
              ));
        }

    pub combine_held : (q : ℕ) → held q (combine_span ◌⊕◌ s e effect Y) ≡ held q Y
    unfolding combine_span combine_nodes root_node
    combine_held q = omega (arith, held_is q Y, held_is q (combine_span ◌⊕◌ s e effect Y), combine_root.pages q)
