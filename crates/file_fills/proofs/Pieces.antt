-- Bytes that are written piece by piece into a file.
use Rattle.std.proofs.Common.{◌≡◌, ◌≢◌, ◌⊎◌, inl, inr, Bool, true, false, ℕ, zero, suc, ◌+◌, ◌-◌, ◌*◌, ◌/◌, ◌%◌, ◌<◌, ◌≤◌, max, min, List, [], ◌++◌, length, take, drop, replicate, Option, Some, refl, sym, ap, ap₂, subst, ◌∙◌, arith, length-take, length-drop}
use Rattle.std.proofs.lemmas.Bool.{cases_lt, cases_Bool, lt-ltb, ne_eqb}
use Rattle.std.proofs.lemmas.List.{append-nil, take-append-drop}
use Rattle.std.proofs.lemmas.List.Elements.{Contains-append_cases}
use Rattle.std.proofs.lemmas.Nat.{div-add-mod', le-div}
use Rattle.std.proofs.Math.Nat.{div-mul-le_self, lt-mul-div-succ, mod-lt, mul-le-mul_right}
use Rattle.std.proofs.Math.Seq.{take-add, take-length}
use Rattle.std.specs.Prelude.{◌&&◌, not}
use Rattle.std.specs.FinMap.{FinMap, insert}
use Rattle.std.specs.Ordering.{nat_cmp}
use Rattle.drafts.specs.Fates.{Drafted, seen_in}
use Rattle.drafts.specs.declared.fate.Fate.{Fate}
use Rattle.drafts.specs.declared.fate.Fate.TheVariants.{Put}
use Rattle.file_tree.specs.Apply.{overwritten}
use Rattle.gfs2_layout.specs.Bytes.{put_at}
use Rattle.gfs2_layout.specs.Holding.{Cell, Holding, bytes_at}
use Rattle.gfs2_layout.specs.Inode.{dinode_in, height_in, span, fan, pieces, content_block, content_count, content_of}
use Rattle.gfs2_layout.specs.Structures.{dinode_length}
use Rattle.gfs2_layout.specs.declared.dinode.Dinode.{Dinode}
use Rattle.glock_names.specs.Views.{Seen}
use Rattle.dinode_tree.specs.Reading.{inode_lock}
use Rattle.dinode_tree.specs.Shown.{IsShown}
use Rattle.dinode_tree.proofs.Sound.{is_there as in_file}
use Rattle.growth_laws.specs.Blocks.{rewritten_cells}
use Rattle.growth_laws.specs.Files.{IsFile, IsPlaced, block_on, places_on, with_cells}
use Rattle.growth_laws.specs.Need.{is_needed, is_over, is_there, needed_below, needed_on}
use Rattle.growth_laws.proofs.Bytes.{writes_join}
use Rattle.growth_laws.proofs.Contents.{content_length, content_part, content_place}
use Rattle.growth_laws.proofs.Needing.{on_way}
use Rattle.growth_laws.proofs.Places.{content_is_level_zero, size_large}
use Rattle.growth_drafts.specs.Taken.{HasBytes}
use Rattle.growth_drafts.proofs.Rooms.{none_in}
use Rattle.file_walks.specs.Walks.{place_above, IsUnder}
use Rattle.file_walks.proofs.Above.{place_up}
use Rattle.file_walks.proofs.Steps.{hole_above}
use Rattle.file_fills.specs.Causes.{ChangesOnly, IsFilledAt}
use Rattle.file_fills.specs.Filling.{HasFilled, IsRoomFor, IsSeenWay}
use Rattle.file_fills.specs.Progress.{HasBlockAt, HasCome, HasGone, HasPieces, IsFurther}
use Rattle.file_fills.specs.Turns.{AreFilled}
use Rattle.file_fills.proofs.Counted.{count_none}
use Rattle.file_fills.proofs.Further.{further_none, kept_place, placed_back}
use Rattle.file_fills.proofs.Seeing.{over_under, place_at}
use Rattle.file_fills.proofs.Tails.{put_leaves}
use Rattle.file_fills.proofs.Stepped.{above_then, across_at, before_end, come_then, put_further, ready_after}

-- the block of content with a place has bytes of the write
pub bytes_at_place : (size from end at len : ℕ) → 0 < size → from ≤ at → 0 < len → at + len ≤ end → HasBytes size from end (at / size)
bytes_at_place size from end at len some low long high =
    let turned : size * (at / size + 1) ≡ (at / size + 1) * size = omega arith in
    record {
      some = omega (arith, low, long, high);
      begins = omega (arith, div-mul-le_self at size, long, high);
      ends = omega (arith, lt-mul-div-succ at some, turned, low);
    }

-- ---- one piece

-- a block of content stays where it stands
pub content_kept : (old new : FinMap nat_cmp Fate) (h : Holding) (cell : ℕ → Option Cell) (at end i : ℕ) (taken : List ℕ) → IsFile h → height_in h ≢ 0 → i < content_count h → content_block h i ≢ 0 → IsFurther old new h cell at end taken
    → content_block (with_cells h cell) i ≡ content_block h i
content_kept old new h cell at end i taken file high low some further =
    let place = content_place h i file high low in
    content_is_level_zero (with_cells h cell) i
    ∙ kept_place old new h cell at end taken further 0 i file place.0 place.1 (λ none. some (content_is_level_zero h i ∙ none))
    ∙ sym (content_is_level_zero h i)

pub put_one : {V : Type 0} (seen : V → Seen) (mid now : Drafted V) (inode : ℕ) (g : Holding) (from end index block off : ℕ) (piece bytes left : List ℕ) → (seen_in seen mid).block_at block ≡ Some bytes → IsShown (seen_in seen mid) inode g
    → IsRoomFor g from end left → HasBytes g.size from end index → index * g.size + off + length piece ≤ end → off ≤ g.size → content_block g index ≡ block → block ≢ 0
    → now ≡ record mid { fates = insert mid.fates block (Put (inode_lock inode) true (put_at off piece bytes)) }
    → IsShown (seen_in seen now) inode (with_cells g (rewritten_cells g block (put_at off piece (bytes_at g block)))) × IsFile (with_cells g (rewritten_cells g block (put_at off piece (bytes_at g block))))
    × (content_of (with_cells g (rewritten_cells g block (put_at off piece (bytes_at g block)))) ≡ overwritten (index * g.size + off) piece (content_of g))
    → HasBlockAt (seen_in seen now) mid.fates now.fates left left g from end index block (overwritten (index * g.size + off) piece (content_of g))
put_one {V} seen mid now inode g from end index block off piece bytes left there shown r has short fits is some put written = record {
  come = record {
    cell = rewritten_cells g block (put_at off piece (bytes_at g block));
    taken = [];
    shown = subst (λ a. IsShown (seen_in seen now) a (with_cells g (rewritten_cells g block (put_at off piece (bytes_at g block))))) (sym shown.own) written.0;
    further = further;
    from_front = refl;
    content = written.2;
  };
  above = λ x level first none. absurd (none_in x none);
  there = some;
  is = content_kept mid.fates now.fates g (rewritten_cells g block (put_at off piece (bytes_at g block))) from end index [] r.file r.in_blocks low (λ none. some (sym is ∙ none)) further ∙ is;
}
  where
    low : index < content_count g
    low = before_end g from end index r.file r.within has

    placed : IsPlaced g block 0 index
    placed = subst (λ c. IsPlaced g c 0 index) is (content_part g r.file r.in_blocks index low (λ none. some (sym is ∙ none)))

    bytes_are : bytes_at g block ≡ bytes
    bytes_are = shown.same block bytes (in_file (g.cell block) _ placed.2) there

    fates_are : insert mid.fates block (Put (inode_lock g.own) true (put_at off piece (bytes_at g block))) ≡ now.fates
    fates_are = (λ t. insert mid.fates block (Put (inode_lock (shown.own t)) true (put_at off piece (bytes_are t)))) ∙ sym (ap (λ (d : Drafted V). d.fates) put)

    further : IsFurther mid.fates now.fates g (rewritten_cells g block (put_at off piece (bytes_at g block))) from end []
    further = subst (λ fates. IsFurther mid.fates fates g (rewritten_cells g block (put_at off piece (bytes_at g block))) from end []) fates_are
        (put_further mid.fates g from end index block (put_at off piece (bytes_at g block)) r.file written.1 placed
        (λ n far. put_leaves off n piece (bytes_at g block) (omega (arith, fits, r.file.whole block _ placed.2)) (omega (arith, far, short))) has)

pub block_then : (before after : Seen) (f0 f1 f2 : FinMap nat_cmp Fate) (room mid left : List ℕ) (h : Holding) (at end i block : ℕ) (bytes bytes' : List ℕ) (a : HasGone before f0 f1 room mid h at end i bytes)
    → HasBlockAt after f1 f2 mid left (with_cells h a.come.cell) at end i block bytes' → HasBlockAt after f0 f2 room left h at end i block bytes'
unfolding come_then
block_then before after f0 f1 f2 room mid left h at end i block bytes bytes' a b = record {
  come = come_then before after f0 f1 f2 room mid left h at end bytes bytes' a.come b.come
      (across_at before after f0 f1 f2 room mid left h at end i bytes bytes' a.come b.come (λ x level first early placed. (a.above x level first early placed).0) b.above);
  above = above_then before after f0 f1 f2 room mid left h at end i bytes bytes' a b.come b.above;
  there = b.there;
  is = b.is;
}

-- ---- one piece more

-- the bytes so far and the next piece
take_more : (bytes : List ℕ) (n next : ℕ) → n ≤ next → take n bytes ++ take (next - n) (drop n bytes) ≡ take next bytes
take_more bytes n next low =
    let sum : n + (next - n) ≡ next = omega (arith, low) in
    sym (take-add n (next - n) bytes) ∙ ap (λ m. take m bytes) sum

-- where a block with some of the bytes up to the next place isn't one of those before, it is that of the piece
piece_index : (size at n next i : ℕ) → 0 < size → next ≤ n + (size - (at + n) % size) → HasBytes size at (at + next) i → (i ≡ (at + n) / size) ⊎ HasBytes size at (at + n) i
piece_index size at n next i some short has = elim (cases_lt i ((at + n) / size)) [
  | inl before ↦
      let whole : (i + 1) * size ≤ (at + n) / size * size = mul-le-mul_right size (let le : i + 1 ≤ (at + n) / size = omega (arith, before) in le) in
      let one : (i + 1) * size ≡ i * size + size = omega arith in
      inr (record {
        some = omega (arith, whole, div-mul-le_self (at + n) size, has.ends);
        begins = omega (arith, whole, div-mul-le_self (at + n) size, one, some);
        ends = has.ends;
      })
  | inr behind ↦ elim (cases_lt ((at + n) / size) i) [
    | inl past ↦
        let whole : ((at + n) / size + 1) * size ≤ i * size = mul-le-mul_right size (let le : (at + n) / size + 1 ≤ i = omega (arith, past) in le) in
        let one : ((at + n) / size + 1) * size ≡ (at + n) / size * size + size = omega arith in
        absurd (omega (arith, whole, one, div-add-mod' (at + n) size, mod-lt (at + n) some, has.begins, short))
    | inr no_past ↦ inl (let same : i ≡ (at + n) / size = omega (arith, behind, no_past) in same)
  ]
]

pub pieces_more : {V : Type 0} (seen : V → Seen) (old mid now : Drafted V) (room between left : List ℕ) (h : Holding) (at n next : ℕ) (bytes piece : List ℕ) (block end : ℕ) → IsRoomFor h at end room → n ≤ next → next ≤ length bytes → end ≡ at + length bytes
    → next ≤ n + (h.size - (at + n) % h.size) → piece ≡ take (next - n) (drop n bytes)
    → (a : HasPieces (seen_in seen mid) old.fates mid.fates room between h at end n bytes)
    → HasBlockAt (seen_in seen now) mid.fates now.fates between left (with_cells h a.come.cell) at end ((at + n) / h.size) block (overwritten (at + n) piece (content_of (with_cells h a.come.cell)))
    → HasPieces (seen_in seen now) old.fates now.fates room left h at end next bytes
unfolding come_then
pieces_more {V} seen old mid now room between left h at n next bytes piece block end r low high end_is short piece_is a b = record {
  come = record {
    cell = b.come.cell;
    taken = both.taken;
    shown = both.shown;
    further = both.further;
    from_front = both.from_front;
    content = both.content ∙ (λ i. overwritten (long i) (piece_is i) (a.come.content i)) ∙ writes_join at (take n bytes) (take (next - n) (drop n bytes)) (content_of h) ∙ ap (λ xs. overwritten at xs (content_of h)) (take_more bytes n next low);
  };
  upto = λ x level first taken placed. elim (Contains-append_cases a.come.taken b.come.taken x taken) [
    | inl early ↦
        let before = a.upto x level first early (placed_back old.fates mid.fates now.fates h a.come.cell b.come.cell at end a.come.taken b.come.taken a.come.further b.come.further x level first early placed) in
        omega (arith, before, low)
    | inr late ↦
        let whole : first * h.size ≤ (at + n) / h.size * h.size = mul-le-mul_right h.size (b.above x level first late placed).0 in
        omega (arith, whole, div-mul-le_self (at + n) h.size, low)
  ];
  there = λ i has. elim (piece_index h.size at n next i some short has) [
    | inl here ↦ λ none. b.there (sym b.is ∙ ap (content_block (with_cells h b.come.cell)) (sym here) ∙ none)
    | inr early ↦ λ none. a.there i early (sym (content_kept mid.fates now.fates (with_cells h a.come.cell) b.come.cell at end i b.come.taken a.come.further.file high_mid (below i has) (a.there i early) b.come.further) ∙ none)
  ];
}
  where
    some : 0 < h.size
    some = omega (arith, size_large h.size r.file.block_size)

    both : HasCome (seen_in seen now) old.fates now.fates room left h at end (overwritten (at + n) piece (content_of (with_cells h a.come.cell)))
    both = come_then (seen_in seen mid) (seen_in seen now) old.fates mid.fates now.fates room between left h at end (overwritten at (take n bytes) (content_of h)) (overwritten (at + n) piece (content_of (with_cells h a.come.cell))) a.come b.come
        (across_at (seen_in seen mid) (seen_in seen now) old.fates mid.fates now.fates room between left h at end ((at + n) / h.size) (overwritten at (take n bytes) (content_of h)) (overwritten (at + n) piece (content_of (with_cells h a.come.cell))) a.come b.come
        (λ x level first early placed. le-div first (at + n) h.size some (a.upto x level first early placed)) b.above)

    long : at + n ≡ at + length (take n bytes)
    long = omega (arith, length-take n bytes, low, high)

    high_mid : height_in (with_cells h a.come.cell) ≢ 0
    high_mid none = r.in_blocks (sym (ap (λ (d : Dinode). d.height) a.come.further.dinode) ∙ none)

    below : (i : ℕ) → HasBytes h.size at (at + next) i → i < content_count (with_cells h a.come.cell)
    below i has =
        before_end (with_cells h a.come.cell) at end i a.come.further.file (subst (λ (d : Dinode). end ≤ d.size) (sym a.come.further.dinode) r.within)
        (record { some = omega (arith, has.some, high, end_is); begins = omega (arith, has.begins, high, end_is); ends = has.ends })

-- ---- all pieces

-- where each block with some of the bytes is there, the write needs none
nothing_needed_at : (h : Holding) (at end : ℕ) → IsFile h → height_in h ≢ 0 → end ≤ (dinode_in h).size → ((i : ℕ) → HasBytes h.size at end i → content_block h i ≢ 0) → (n : ℕ) → n ≤ height_in h → needed_below h at end n ≡ 0
nothing_needed_at h at end file high within there zero low = refl
nothing_needed_at h at end file high within there (suc n) low =
    let large : 512 ≤ h.size = size_large h.size file.block_size in
    let on : needed_on h at end n ≡ 0
    = count_none (is_needed h at end n) 0 (max 1 (pieces end (span h.size n * h.size))) (λ x from until. not_needed x (cases_Bool (is_over h.size at end n x))) in
    omega (arith, on, nothing_needed_at h at end file high within there n (omega (arith, low)))
  where
    there_too : (x : ℕ) → is_over h.size at end n x ≡ true → is_there h n x ≡ true
    there_too x over = found (over_under h h.size at end n x refl (size_large h.size file.block_size) over)
      where
        found : (i : ℕ) × HasBytes h.size at end i × IsUnder h n x i → is_there h n x ≡ true
        found (i, has, under) =
            let place = content_place h i file high (before_end h at end i file within has) in
            let next : (x + 1) * span h.size n ≡ x * span h.size n + span h.size n = omega arith in
            let above : place_above h.size 0 i n ≡ x = place_at h.size i n x under.from (omega (arith, under.until, next)) in
            let none : height_in h - 1 - 0 ≡ height_in h - 1 = omega arith in
            let inside : place_above h.size 0 i n < places_on h n
            = place_up h.size (fan h.size dinode_length) (height_in h - 1) i n (size_large h.size file.block_size) (omega (arith, low))
            (subst (λ m. i < fan h.size dinode_length * span h.size m) none place.1) in
            let near : x < places_on h n = subst (λ m. m < places_on h n) above inside in
            let level : 0 + n ≡ n = omega arith in
            let flat : n - 0 ≡ n = omega arith in
            let some : block_on h n x ≢ 0 = λ hole.
            there i has (content_is_level_zero h i ∙ hole_above h file n 0 i (omega (arith, low)) place.1
            ((λ t. block_on h (level t) (i / span h.size (sym flat t))) ∙ ap (block_on h n) above ∙ hole)) in
            (λ t. lt-ltb n (height_in h) (let less : n < height_in h = omega (arith, low) in less) t && lt-ltb x (places_on h n) near t && not (ne_eqb (block_on h n x) 0 some t))

    not_needed : (x : ℕ) → (is_over h.size at end n x ≡ true) ⊎ (is_over h.size at end n x ≡ false) → is_needed h at end n x ≡ false
    not_needed x (inl over) = ap₂ (λ (p : Bool) (q : Bool). p && not q) (on_way h at end n x (omega (arith, low)) ∙ over) (there_too x over)
    not_needed x (inr out) = ap (λ (p : Bool). p && not (is_there h n x)) (on_way h at end n x (omega (arith, low)) ∙ out)

pub pieces_done : (after : Seen) (f0 f1 : FinMap nat_cmp Fate) (room left : List ℕ) (h : Holding) (at n end : ℕ) (bytes : List ℕ) → IsRoomFor h at end room → end ≡ at + length bytes → n ≡ length bytes
    → HasPieces after f0 f1 room left h at end n bytes → HasFilled after f0 f1 room left h at bytes
pieces_done after f0 f1 room left h at n end bytes r end_is n_is a = record {
  g = with_cells h a.come.cell;
  taken = a.come.taken;
  shown = a.come.shown;
  file = a.come.further.file;
  content = a.come.content ∙ ap (λ xs. overwritten at xs (content_of h)) (ap (λ m. take m bytes) n_is ∙ take-length bytes);
  dinode = a.come.further.dinode;
  blocks = a.come.further.blocks;
  places = λ b level first had. (λ placed. (placed.0, placed.1, sym (a.come.further.parts b had) ∙ placed.2), λ placed. (placed.0, placed.1, a.come.further.parts b had ∙ placed.2));
  own = a.come.further.own;
  headers = a.come.further.headers;
  clear = λ from far. a.come.further.clear from (omega (arith, far, end_is));
  filled = subst (λ m. AreFilled h (with_cells h a.come.cell) at m a.come.taken) end_is a.come.further.filled;
  counted = a.come.further.counted;
  as_many =
      let none = nothing_needed_at (with_cells h a.come.cell) at end a.come.further.file (λ none. r.in_blocks (sym same ∙ none)) (subst (λ (d : Dinode). end ≤ d.size) (sym a.come.further.dinode) r.within) each (height_in h) (omega (arith, same)) in
      let all : length a.come.taken ≡ needed_below h at end (height_in h) = omega (arith, a.come.further.need, none) in
      all ∙ ap (λ m. needed_below h at m (height_in h)) end_is;
  from_front = a.come.from_front;
  drafted = a.come.further.drafted;
  changes = subst (λ m. ChangesOnly f0 f1 (IsFilledAt (with_cells h a.come.cell) at m a.come.taken)) end_is a.come.further.changes;
}
  where
    same : height_in (with_cells h a.come.cell) ≡ height_in h
    same = ap (λ (d : Dinode). d.height) a.come.further.dinode

    each : (i : ℕ) → HasBytes h.size at end i → content_block (with_cells h a.come.cell) i ≢ 0
    each i has = a.there i (subst (λ m. HasBytes h.size at m i) (end_is ∙ ap (λ m. at + m) (sym n_is)) has)

-- nothing is written yet
pub pieces_none : {V : Type 0} (seen : V → Seen) (old : Drafted V) (inode : ℕ) (room : List ℕ) (h : Holding) (at end : ℕ) (bytes : List ℕ) → IsShown (seen_in seen old) inode h → IsRoomFor h at end room → at ≤ end
    → HasPieces (seen_in seen old) old.fates old.fates room room h at end 0 bytes
pieces_none seen old inode room h at end bytes shown r low = record {
  come = record {
    cell = h.cell;
    taken = [];
    shown = subst (λ a. IsShown (seen_in seen old) a h) (sym shown.own) shown;
    further = further_none old.fates h at end r.file;
    from_front = refl;
    content = sym (nothing_over at (content_of h) (omega (arith, low, r.within, content_length h r.file r.in_blocks)));
  };
  upto = λ x level first none. absurd (none_in x none);
  there = λ i has. absurd (omega (arith, has.some));
}
  where
    nothing_over : (at : ℕ) (xs : List ℕ) → at ≤ length xs → overwritten at [] xs ≡ xs
    nothing_over at xs low =
        let none : at - length xs ≡ 0 = omega (arith, low) in
        let here : at + 0 ≡ at = omega arith in
        (λ t. take at xs ++ replicate (none t) 0 ++ [] ++ drop (here t) xs) ∙ ap (λ ys. ys ++ [] ++ drop at xs) (append-nil (take at xs)) ∙ ap (λ ys. ys ++ drop at xs) (append-nil (take at xs)) ∙ take-append-drop at xs

-- ---- a piece, as it is written

pub piece_step : {V : Type 0} (seen : V → Seen) (old mid now : Drafted V) (inode : ℕ) (room between left : List ℕ) (h : Holding) (at n next : ℕ) (bytes piece : List ℕ) (done : Bool) → mid.view ≡ old.view → IsShown (seen_in seen old) inode h
    → IsRoomFor h at (at + length bytes) room → ((i : ℕ) → HasBytes h.size at (at + length bytes) i → IsSeenWay (seen_in seen old) h i)
    → n < length bytes → next ≡ min (length bytes) (n + (h.size - (at + n) % h.size)) → piece ≡ take (next - n) (drop n bytes)
    → HasPieces (seen_in seen mid) old.fates mid.fates room between h at (at + length bytes) n bytes
    → ((g : Holding) (from end : ℕ) → IsShown (seen_in seen mid) inode g → IsRoomFor g from end between → from ≤ at + n → at + n + length piece ≤ end → IsSeenWay (seen_in seen mid) g ((at + n) / g.size)
    → (done ≡ true) × ((block : ℕ) × HasBlockAt (seen_in seen now) mid.fates now.fates between left g from end ((at + n) / g.size) block (overwritten (at + n) piece (content_of g))))
    → (done ≡ true) × HasPieces (seen_in seen now) old.fates now.fates room left h at (at + length bytes) next bytes
piece_step seen old mid now inode room between left h at n next bytes piece done view shown r ways low next_is piece_is a write = (
  one.0,
  pieces_more seen old mid now room between left h at n next bytes piece one.1.0 (at + length bytes) r (omega (arith, next_is, rest, low)) (omega (arith, next_is)) refl (omega (arith, next_is)) piece_is a one.1.1,
)
  where
    some : 0 < h.size
    some = omega (arith, size_large h.size r.file.block_size)

    rest : (at + n) % h.size < h.size
    rest = mod-lt (at + n) some

    long : length piece ≡ next - n
    long = ap length piece_is ∙ omega (arith, length-take (next - n) (drop n bytes), length-drop n bytes, next_is)

    ready : IsRoomFor (with_cells h a.come.cell) at (at + length bytes) between × IsShown (seen_in seen mid) inode (with_cells h a.come.cell)
        × ((i : ℕ) → IsSeenWay (seen_in seen old) h i → IsSeenWay (seen_in seen mid) (with_cells h a.come.cell) i)
    ready = ready_after seen old mid inode room between h at (at + length bytes) (overwritten at (take n bytes) (content_of h)) view shown r a.come

    has : HasBytes h.size at (at + length bytes) ((at + n) / h.size)
    has = bytes_at_place h.size at (at + length bytes) (at + n) 1 some (omega arith) (omega arith) (omega (arith, low))

    one : (done ≡ true) × ((block : ℕ) × HasBlockAt (seen_in seen now) mid.fates now.fates between left (with_cells h a.come.cell) at (at + length bytes) ((at + n) / h.size) block (overwritten (at + n) piece (content_of (with_cells h a.come.cell))))
    one = write (with_cells h a.come.cell) at (at + length bytes) ready.1 ready.0 (omega arith) (omega (arith, long, next_is, rest, low)) (ready.2 ((at + n) / h.size) (ways ((at + n) / h.size) has))
