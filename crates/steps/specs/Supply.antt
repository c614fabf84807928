-- Document 01, "One change in five steps": "Pages are taken from the chain's front, else at the high mark; given back to the
-- front." Each definition here says what one small change of the image leaves. Assumes nothing.
use Rattle.std.specs.Prelude.{ℕ, zero, suc, ◌+◌, ◌-◌, cond, List, [], ◌∷◌, eqb}
use Rattle.page.specs.declared.Entry.{Entry}
use Rattle.page.specs.declared.Head.{Head}
use Rattle.image.specs.Images.{Image, Cell, free, entries_in, next_in}

-- the entries of page p
unfoldable pub entries : Image → ℕ → List Entry
entries X p = entries_in (X.page p)

-- page p holds c from now on
unfoldable pub put : ℕ → Cell → Image → Image
put p c X = record { head = X.head; page = λ q. cond (eqb q p) c (X.page q) }

-- the head's numbers on free pages
unfoldable pub with_supply : ℕ → ℕ → ℕ → Head → Head
with_supply first chain mark h =
    record {
      pages = h.pages;
      height = h.height;
      root = h.root;
      free = first;
      chain = chain;
      mark = mark;
      kind = h.kind;
      window = h.window;
      changes = h.changes;
      capacity = h.capacity;
    }

-- the page that is taken next. Past the image's end the high mark goes on: refusal 24 sees to it that no change gets there.
unfoldable pub spare : Image → ℕ
spare X = cond (eqb X.head.chain 0) X.head.mark X.head.free

-- the image once that page is taken
unfoldable pub taken : Image → Image
taken X =
    let h = X.head in
    record {
      head =
          cond (eqb h.chain 0) (with_supply h.free h.chain (suc h.mark) h)
          (with_supply (next_in (X.page h.free)) (h.chain - 1) h.mark h);
      page = X.page;
    }

-- page p is given back
unfoldable pub given_back : ℕ → Image → Image
given_back p X =
    let h = X.head in
    put p (free h.free) (record { head = with_supply p (suc h.chain) h.mark h; page = X.page })

-- the first k pages that would be taken
unfoldable pub spares : ℕ → Image → List ℕ
spares zero X = []
spares (suc k) X = spare X ∷ spares k (taken X)

-- how many pages were taken on the path from X to Y: those that left the chain, and those that the high mark passed
unfoldable pub pages_taken : Image → Image → ℕ
pages_taken X Y = (X.head.chain - Y.head.chain) + (Y.head.mark - X.head.mark)

-- the root is page p, at that height
unfoldable pub with_root : ℕ → ℕ → Image → Image
with_root height p X =
    let h = X.head in
    record {
      head =
          record {
            pages = h.pages;
            height = height;
            root = p;
            free = h.free;
            chain = h.chain;
            mark = h.mark;
            kind = h.kind;
            window = h.window;
            changes = h.changes;
            capacity = h.capacity;
          };
      page = X.page;
    }

-- "Then changes rises by 1."
unfoldable pub count_change : Image → Image
count_change X =
    let h = X.head in
    record {
      head =
          record {
            pages = h.pages;
            height = h.height;
            root = h.root;
            free = h.free;
            chain = h.chain;
            mark = h.mark;
            kind = h.kind;
            window = h.window;
            changes = suc h.changes;
            capacity = h.capacity;
          };
      page = X.page;
    }
