-- The records of a new image's areas, one by one, and one more that is put in. Each takes 48 bytes.
use Rattle.std.proofs.Common.{ℕ, ◌≡◌, ◌+◌, ◌-◌, ◌*◌, ◌^◌, ◌<◌, ◌≤◌, Bool, true, false, List, [], ◌∷◌, ◌++◌, length, take, drop, replicate, Some, None, refl, sym, ap, ap₂, ◌∙◌, subst, arith, length-append, length-drop, append-nil, append_assoc}
use Rattle.std.specs.Prelude.{◌&&◌, not, min, nat_le, option_and_then}
use Rattle.std.specs.List.{AllByRecursion}
use Rattle.std.specs.Option.{option_map}
use Rattle.std.proofs.lemmas.Bool.{cond-true, cond-false, ne_eqb, le-leb, lt-leb}
use Rattle.std.proofs.lemmas.List.{take_all, take_at, take-append-le, drop-append-le, length-replicate, drop-replicate, take-replicate, replicate-append-replicate}
use Rattle.std.proofs.Math.Seq.{take-append-add, drop-append-add}
use Rattle.gfs2_layout.specs.Area.{Slot, slot_at, slots_of, IsArea}
use Rattle.gfs2_layout.specs.Bytes.{put_at, slice, u16_at, with_number}
use Rattle.gfs2_layout.specs.Fields.{with_fields}
use Rattle.gfs2_layout.specs.Putting.{least_length, taken_length, has_room, cut_short, new_slot}
use Rattle.gfs2_layout.specs.Structures.{is_in_use, dirent_of}
use Rattle.gfs2_layout.specs.Writing.{dirent_put}
use Rattle.gfs2_layout.specs.declared.dirent.Dirent.{Dirent}
use Rattle.leaf_areas.specs.Moving.{in_use, moved, moved_length, packed}
use Rattle.mkgfs2_tool.specs.Directories.{name_of as name_in, head_of, record_bytes, records}
use Rattle.mkgfs2_tool.specs.Insertions.{put_in, put_each, no_records}
use Rattle.mkgfs2_tool.specs.declared.directory.Entry.{Entry}
use Rattle.mkgfs2_tool.proofs.StandingLists.{all_append}
use Rattle.mkgfs2_tool.proofs.StandingGiven.{Given}
use Rattle.mkgfs2_tool.proofs.StandingRecords.{IsPlain, IsEntry, head_read, one_area}

-- ---- one record

abbrev pub slot_made : Entry → ℕ → Slot
slot_made e r = record { head = head_of e r; pad = replicate 12 0; body = name_in e ++ replicate (r - 40 - length (name_in e)) 0 }

pad_clear : (d : Dirent) (name zs : List ℕ) → slice 28 12 (put_at 40 name (dirent_put d (replicate 40 0 ++ zs))) ≡ replicate 12 0
unfolding with_fields with_number
pad_clear d name zs = refl

pad_is : (e : Entry) (r : ℕ) → 40 ≤ r → slice 28 12 (record_bytes e r) ≡ replicate 12 0
pad_is e r large = ap (λ (zs : List ℕ). slice 28 12 (put_at 40 (name_in e) (dirent_put (head_of e r) zs))) (sym (replicate-append-replicate 40 (r - 40) 0 ∙ ap (λ n. replicate n 0) (whole r large))) ∙ pad_clear (head_of e r) (name_in e) (replicate (r - 40) 0)
  where
    whole : (r : ℕ) → 40 ≤ r → 40 + (r - 40) ≡ r
    whole r large = omega (arith, large)

-- the record that these bytes begin with, where what stands behind is what it reaches over
pub slot_over : (given : Given) (e : Entry) (r : ℕ) (tail : List ℕ) → IsPlain e → least_length (length (name_in e)) ≤ r → 40 + length (name_in e) ≤ r → r + e.reach < 2 ^ 16 → length tail ≡ e.reach
    → slot_at (record_bytes e r ++ tail) ≡ record { head = head_of e r; pad = replicate 12 0; body = (name_in e ++ replicate (r - 40 - length (name_in e)) 0) ++ tail }
slot_over given e r tail plain fits inside short over =
    let own = head_read given e r plain fits short in
    let body : List ℕ = (name_in e ++ replicate (r - 40 - length (name_in e)) 0) ++ tail in
    let head : dirent_of (record_bytes e r ++ tail) ≡ head_of e r = own.read tail in
    let size : u16_at 20 (record_bytes e r ++ tail) ≡ r + e.reach = ap (λ (d : Dirent). d.rec_len) head in
    let behind : drop 40 (record_bytes e r ++ tail) ≡ body = drop-append-le 40 (record_bytes e r) tail (omega (arith, own.long, inside)) ∙ ap (λ xs. xs ++ tail) own.behind in
    let long : length body ≡ r - 40 + e.reach =
    length-append (name_in e ++ replicate (r - 40 - length (name_in e)) 0) tail ∙ sum (length (name_in e)) (length (name_in e ++ replicate (r - 40 - length (name_in e)) 0)) (length tail) r e.reach inside
    (length-append (name_in e) (replicate (r - 40 - length (name_in e)) 0) ∙ ap (λ n. length (name_in e) + n) (length-replicate {A = ℕ} (r - 40 - length (name_in e)) 0)) over in
    let pad : slice 28 12 (record_bytes e r ++ tail) ≡ replicate 12 0 =
    ap (take 12) (drop-append-le 28 (record_bytes e r) tail (omega (arith, own.long, inside)))
    ∙ take-append-le 12 (drop 28 (record_bytes e r)) tail (omega (arith, length-drop 28 (record_bytes e r), own.long, inside)) ∙ pad_is e r (omega (arith, inside)) in
    let whole : take (r + e.reach - 40) body ≡ body = take_all (r + e.reach - 40) body (omega (arith, long, inside)) in
    λ t. record { head = head t; pad = pad t; body = (ap (λ n. take (n - 40) (drop 40 (record_bytes e r ++ tail))) size ∙ ap (take (r + e.reach - 40)) behind ∙ whole) t }
  where
    sum : (n m k r c : ℕ) → 40 + n ≤ r → m ≡ n + (r - 40 - n) → k ≡ c → m + k ≡ r - 40 + c
    sum n m k r c inside e f = omega (arith, inside, e, f)

-- ---- one record after another

-- an entry whose record takes 48 bytes
pub record Is48 (e : Entry) : Type 0 where
  pub entry : IsEntry e
  pub least : least_length (length (name_in e)) ≡ 48
  pub short : length (name_in e) ≤ 8

abbrev pub Are48 : List Entry → Type 0
Are48 es = AllByRecursion Is48 es

abbrev pub made : ℕ → List Entry → List Slot
made r [] = []
made r (e ∷ []) = slot_made e r ∷ []
made r (e ∷ f ∷ es) = slot_made e 48 ∷ made (r - 48) (f ∷ es)

-- the records of these bytes
pub record IsMade (slots : List Slot) (bytes : List ℕ) : Type 0 where
  pub are : slots_of bytes ≡ slots
  pub area : IsArea bytes

-- one record, which reaches over what stands behind it
pub over_made : (given : Given) (e : Entry) (tail : List ℕ) → IsPlain e → least_length (length (name_in e)) ≡ 48 → length (name_in e) ≤ 8 → e.reach < 2 ^ 8 → length tail ≡ e.reach
    → IsMade (record { head = head_of e 48; pad = replicate 12 0; body = (name_in e ++ replicate (48 - 40 - length (name_in e)) 0) ++ tail } ∷ []) (record_bytes e 48 ++ tail)
over_made given e tail plain least short few over =
    let one = one_area given e 48 tail plain (omega (arith, least)) (omega (arith, few)) over in
    record { are = one.slots ∙ ap (λ (s : Slot). s ∷ []) (slot_over given e 48 tail plain (omega (arith, least)) (omega (arith, short)) (omega (arith, few)) over); area = one.area }

pub one_made : (given : Given) (e : Entry) (r : ℕ) → Is48 e → 48 ≤ r → r < 2 ^ 16 → IsMade (slot_made e r ∷ []) (record_bytes e r)
one_made given e r is fits short =
    let one = one_area given e r [] is.entry.plain (omega (arith, is.least, fits)) (omega (arith, short, is.entry.reach)) (sym is.entry.reach) in
    let slot = slot_over given e r [] is.entry.plain (omega (arith, is.least, fits)) (omega (arith, is.short, fits)) (omega (arith, short, is.entry.reach)) (sym is.entry.reach) in
    subst (IsMade (slot_made e r ∷ [])) (append-nil (record_bytes e r))
    (record { are = one.slots ∙ ap (λ (s : Slot). s ∷ []) (slot ∙ ap (λ (b : List ℕ). record { head = head_of e r; pad = replicate 12 0; body = b }) (append-nil (name_in e ++ replicate (r - 40 - length (name_in e)) 0))); area = one.area })

pub both_made : (given : Given) (a b : List ℕ) (ss ts : List Slot) → IsMade ss a → IsMade ts b → IsMade (ss ++ ts) (a ++ b)
both_made given a b ss ts first later = let both = given.areas.both a b first.area later.area in record { are = both.0 ∙ ap₂ (λ (x y : List Slot). x ++ y) first.are later.are; area = both.1 }

pub all_made : (given : Given) (r : ℕ) (es : List Entry) → Are48 es → 1 ≤ length es → 48 * length es ≤ r → r < 2 ^ 16 → IsMade (made r es) (records r es)
unfolding records
all_made given r [] all some fits short = absurd (omega (arith, some))
all_made given r (e ∷ []) all some fits short = one_made given e r all.0 (omega (arith, fits)) short
all_made given r (e ∷ f ∷ es) all some fits short =
    subst (λ n. IsMade (slot_made e 48 ∷ made (r - 48) (f ∷ es)) (record_bytes e n ++ records (r - n) (f ∷ es))) (sym all.0.least)
    (both_made given (record_bytes e 48) (records (r - 48) (f ∷ es)) (slot_made e 48 ∷ []) (made (r - 48) (f ∷ es)) (one_made given e 48 all.0 (omega arith) (omega arith))
    (all_made given (r - 48) (f ∷ es) all.1 (omega arith) (omega (arith, fits)) (omega (arith, short))))

-- ---- one more record

pub used : (e : Entry) (r : ℕ) → Is48 e → is_in_use (slot_made e r).head ≡ true
used e r is = λ t. not (ne_eqb e.number 0 (λ z. is.entry.number z) t) && not (ne_eqb e.address 0 (λ z. is.entry.address z) t)

taken_is : (e : Entry) (r : ℕ) → Is48 e → taken_length (slot_made e r) ≡ 48
taken_is e r is = cond-true _ _ _ (used e r is) ∙ is.least

room_by : (e f : Entry) (r : ℕ) (v : Bool) → Is48 e → Is48 f → nat_le (48 + 48) (r + f.reach) ≡ v → has_room (least_length (length (name_in e))) (slot_made f r) ≡ v
room_by e f r v is is' so = (λ t. nat_le (taken_is f r is' t + is.least t) (r + f.reach)) ∙ so

has : (e f : Entry) (r : ℕ) → Is48 e → Is48 f → 96 ≤ r → has_room (least_length (length (name_in e))) (slot_made f r) ≡ true
has e f r is is' large = room_by e f r true is is' (le-leb 96 (r + f.reach) (omega (arith, large)))

lacks : (e f : Entry) (r : ℕ) → Is48 e → Is48 f → r < 96 → has_room (least_length (length (name_in e))) (slot_made f r) ≡ false
lacks e f r is is' small = room_by e f r false is is' (lt-leb 96 (r + f.reach) (omega (arith, small, is'.entry.reach)))

-- a name, and zeros behind it: its first bytes, and what is behind 48 - 40 of them
cut_body : (name : List ℕ) (m : ℕ) → length name ≤ 8 → 8 ≤ length name + m → take 8 (name ++ replicate m 0) ≡ name ++ replicate (8 - length name) 0
cut_body name m short long =
    ap (λ n. take n (name ++ replicate m 0)) (let e : 8 ≡ length name + (8 - length name) = omega (arith, short) in e)
    ∙ take-append-add name (replicate m 0) (8 - length name) ∙ ap (λ xs. name ++ xs) (take-replicate (8 - length name) m 0 (omega (arith, long, short)))

rest_body : (name : List ℕ) (m : ℕ) → length name ≤ 8 → drop 48 (name ++ replicate m 0) ≡ replicate (m - (48 - length name)) 0
rest_body name m short =
    ap (λ n. drop n (name ++ replicate m 0)) (let e : 48 ≡ length name + (48 - length name) = omega (arith, short) in e)
    ∙ drop-append-add name (replicate m 0) (48 - length name) ∙ drop-replicate (48 - length name) m 0

cut_is : (f : Entry) (r : ℕ) → Is48 f → 96 ≤ r → cut_short (slot_made f r) ≡ slot_made f 48
cut_is f r is large = λ t. record {
  head = record (head_of f r) { rec_len = (is.least ∙ reached) t };
  pad = replicate 12 0;
  body = (ap (λ n. take (n - 40) (name_in f ++ replicate (r - 40 - length (name_in f)) 0)) is.least ∙ cut_body (name_in f) (r - 40 - length (name_in f)) is.short (omega (arith, is.short, large))) t;
}
  where
    reached : 48 ≡ 48 + f.reach
    reached = omega (arith, is.entry.reach)

-- over zeros
new_is : (e : Entry) (k r : ℕ) (over : List ℕ) → Is48 e → over ≡ replicate k 0 → 40 + k ≡ r → new_slot (head_of e 0) (name_in e) over ≡ slot_made e r
new_is e k r over is clear whole = ap (new_slot (head_of e 0) (name_in e)) clear ∙ (λ t. record {
  head = record (head_of e 0) { rec_len = long t };
  pad = replicate 12 0;
  body = name_in e ++ (drop-replicate (length (name_in e)) k 0 ∙ ap (λ n. replicate (n - length (name_in e)) 0) rest) t;
})
  where
    long : 40 + length (replicate {A = ℕ} k 0) ≡ r + e.reach
    long = omega (arith, length-replicate {A = ℕ} k 0, whole, is.entry.reach)

    rest : k ≡ r - 40
    rest = omega (arith, whole)

pub put_first : (e : Entry) (r : ℕ) → Is48 e → 48 ≤ r → put_in e (no_records r) ≡ Some (slot_made e r ∷ [])
put_first e r is fits =
    cond-true _ _ _ ((λ t. nat_le (0 + is.least t) r) ∙ le-leb 48 r fits)
    ∙ ap (λ (s : Slot). Some (s ∷ [])) (new_is e (r - 40) r (replicate (r - 40) 0) is refl (omega (arith, fits)))

pub put_more : (e : Entry) (r : ℕ) (f : Entry) (es : List Entry) → Is48 e → Are48 (f ∷ es) → 48 * (length (f ∷ es) + 1) ≤ r → put_in e (made r (f ∷ es)) ≡ Some (made r (f ∷ (es ++ e ∷ [])))
put_more e r f [] is all fits =
    cond-true _ _ _ (has e f r is all.0 (omega (arith, fits)))
    ∙ ap (λ (ss : List Slot). Some (ss ++ [])) (cond-true _ _ _ (used f r all.0))
    ∙ (λ t. Some (cut_is f r all.0 (omega (arith, fits)) t ∷ new_is e (r - 48 - 40) (r - 48) (drop (least_length (length (name_in f))) (slot_made f r).body) is over (omega (arith, fits)) t ∷ []))
  where
    over : drop (least_length (length (name_in f))) (slot_made f r).body ≡ replicate (r - 48 - 40) 0
    over = ap (λ n. drop n (slot_made f r).body) all.0.least ∙ rest_body (name_in f) (r - 40 - length (name_in f)) all.0.short ∙ ap (λ n. replicate n 0) (left r (length (name_in f)) all.0.short)
      where
        left : (r n : ℕ) → n ≤ 8 → r - 40 - n - (48 - n) ≡ r - 48 - 40
        left r n short = omega (arith, short)
put_more e r f (g ∷ es) is all fits =
    cond-false _ _ _ (lacks e f 48 is all.0 (omega arith))
    ∙ ap (option_map (λ (after : List Slot). slot_made f 48 ∷ after)) (put_more e (r - 48) g es is all.1 (omega (arith, fits)))

pub put_full : (e : Entry) (r : ℕ) (f : Entry) (es : List Entry) → Is48 e → Are48 (f ∷ es) → 48 * length (f ∷ es) ≤ r → r < 48 * (length (f ∷ es) + 1) → put_in e (made r (f ∷ es)) ≡ None
put_full e r f [] is all fits full = cond-false _ _ _ (lacks e f r is all.0 (omega (arith, full)))
put_full e r f (g ∷ es) is all fits full =
    cond-false _ _ _ (lacks e f 48 is all.0 (omega arith))
    ∙ ap (option_map (λ (after : List Slot). slot_made f 48 ∷ after)) (put_full e (r - 48) g es is all.1 (omega (arith, fits)) (omega (arith, full, fits)))

pub put_all : (r : ℕ) (f : Entry) (es later : List Entry) → Are48 (f ∷ es) → Are48 later → 48 * (length (f ∷ es) + length later) ≤ r → put_each later (made r (f ∷ es)) ≡ Some (made r (f ∷ (es ++ later)))
put_all r f es [] all more fits = ap (λ (xs : List Entry). Some (made r (f ∷ xs))) (sym (append-nil es))
put_all r f es (e ∷ later) all more fits =
    ap (option_and_then (put_each later)) (put_more e r f es more.0 all (omega (arith, fits)))
    ∙ put_all r f (es ++ e ∷ []) later (all.0, all_append Is48 es (e ∷ []) all.1 (more.0, tt)) more.1 (omega (arith, fits, length-append es (e ∷ [])))
    ∙ ap (λ (xs : List Entry). Some (made r (f ∷ xs))) (append_assoc es (e ∷ []) later)

-- all of them, into an area without records
pub put_new : (r : ℕ) (e : Entry) (es : List Entry) → Are48 (e ∷ es) → 48 * length (e ∷ es) ≤ r → put_each (e ∷ es) (no_records r) ≡ Some (made r (e ∷ es))
put_new r e es all fits = ap (option_and_then (put_each es)) (put_first e r all.0 (omega (arith, fits))) ∙ put_all r e [] es (all.0, tt) all.1 (omega (arith, fits))

-- ---- records that are packed into another area

all_used : (r : ℕ) (es : List Entry) → Are48 es → in_use (made r es) ≡ made r es
all_used r [] all = refl
all_used r (e ∷ []) all = cond-true _ _ _ (used e r all.0)
all_used r (e ∷ f ∷ es) all = cond-true _ _ _ (used e 48 all.0) ∙ ap (λ (ss : List Slot). slot_made e 48 ∷ ss) (all_used (r - 48) (f ∷ es) all.1)

moved_is : (e : Entry) (r s : ℕ) → Is48 e → moved s (slot_made e r) ≡ slot_made e s
moved_is e r s is = λ t. record {
  head = record (head_of e r) { rec_len = long t };
  pad = replicate 12 0;
  body = name t ++ replicate (s - 40 - length (name t)) 0;
}
  where
    long : s ≡ s + e.reach
    long = omega (arith, is.entry.reach)

    name : take (length (name_in e)) (name_in e ++ replicate (r - 40 - length (name_in e)) 0) ≡ name_in e
    name = take_at (name_in e) (replicate (r - 40 - length (name_in e)) 0) (length (name_in e)) refl

moves_48 : (e : Entry) → Is48 e → moved_length (slot_made e 48) ≡ 48
moves_48 e is = ap₂ min is.least long
  where
    long : 48 + e.reach ≡ 48
    long = omega (arith, is.entry.reach)

packed_more : (room : ℕ) (s : Slot) (r : ℕ) (f : Entry) (es : List Entry) → packed room (s ∷ made r (f ∷ es)) ≡ moved (moved_length s) s ∷ packed (room - moved_length s) (made r (f ∷ es))
packed_more room s r f [] = refl
packed_more room s r f (g ∷ es) = refl

packed_made : (room r : ℕ) (e : Entry) (es : List Entry) → Are48 (e ∷ es) → packed room (made r (e ∷ es)) ≡ made room (e ∷ es)
packed_made room r e [] all = ap (λ (s : Slot). s ∷ []) (moved_is e r room all.0)
packed_made room r e (f ∷ es) all =
    packed_more room (slot_made e 48) (r - 48) f es
    ∙ (λ t. moved (moves_48 e all.0 t) (slot_made e 48) ∷ packed (room - moves_48 e all.0 t) (made (r - 48) (f ∷ es)))
    ∙ ap₂ (λ (s : Slot) (ss : List Slot). s ∷ ss) (moved_is e 48 48 all.0) (packed_made (room - 48) (r - 48) f es all.1)

-- packed into another area, the records are those that would stand there if the same entries had been put in there
pub put_packed : (room r : ℕ) (e : Entry) (es : List Entry) → Are48 (e ∷ es) → packed room (in_use (made r (e ∷ es))) ≡ made room (e ∷ es)
put_packed room r e es all = ap (packed room) (all_used r (e ∷ es) all) ∙ packed_made room r e es all
