-- Which blocks a view has of a file.
use Rattle.std.proofs.Common.{◌≡◌, ◌≢◌, ◌⊎◌, inl, inr, Bool, true, Option, None, Some, IfSome, IfNone, Result, Ok, Err, ℕ, suc, ◌+◌, ◌-◌, ◌*◌, ◌/◌, ◌<◌, ◌≤◌, refl, sym, ap, subst, ◌∙◌, arith}
use Rattle.std.proofs.lemmas.Bool.{cases_lt, cases_eq, both_ways}
use Rattle.std.proofs.Math.Nat.{div-eq_of_lt-le}
use Rattle.std.specs.Prelude.{◌↔◌, IsSomeAnd}
use Rattle.gfs2_layout.specs.Headers.{HasHeader}
use Rattle.gfs2_layout.specs.Holding.{Holding, bytes_at}
use Rattle.gfs2_layout.specs.Inode.{Leads, from_dinode, from_block, HasTree, dinode_in, height_in, fan, span, content_count}
use Rattle.gfs2_layout.specs.Structures.{dinode_length, is_regular}
use Rattle.gfs2_layout.specs.declared.dinode.Dinode.{Dinode}
use Rattle.glock_names.specs.Steps.{IfIs, IsDamage}
use Rattle.glock_names.specs.Views.{Seen, HasBlock}
use Rattle.glock_names.specs.declared.steps.CallFault.{CallFault}
use Rattle.glock_names.specs.declared.steps.CallFault.TheVariants.{Damaged, NoMemory}
use Rattle.glock_names.specs.declared.steps.Missing.{Missing}
use Rattle.glock_names.specs.declared.steps.Step.{Step}
use Rattle.glock_names.specs.declared.steps.Step.TheVariants.{Is, NeedBlock}
use Rattle.file_walks.specs.Going.{count_in}
use Rattle.dinode_tree.specs.Broken.{Needs, of_dinode, of_indirect, of_table, IsBroken, no_header, other_address, no_number, no_mode, too_high, too_large_for_dinode, too_large_for_height, past_end}
use Rattle.dinode_tree.specs.Reading.{IsNeeded, IsOnWay, the_dinode, led_to, inode_lock}
use Rattle.dinode_tree.specs.Shown.{IsShown}
use Rattle.dinode_tree.proofs.Pointers.{leads_somewhere}
use Rattle.dinode_tree.proofs.Sound.{part_of_led}
use Rattle.growth_laws.specs.Files.{IsFile, block_on, places_on}
use Rattle.growth_laws.specs.Need.{is_over}
use Rattle.growth_laws.proofs.Places.{size_large, place_of_part}
use Rattle.growth_drafts.specs.Taken.{HasBytes}
use Rattle.file_walks.specs.Walks.{place_above, first_of, IsPlace, IsStop, IsUnder, LeadsOn, AreSeenAbove}
use Rattle.file_walks.specs.declared.walks.Stop.{Stop}
use Rattle.file_walks.proofs.Above.{above_self, above_above, place_below}
use Rattle.file_walks.proofs.Steps.{hole_above}
use Rattle.file_fills.specs.Filling.{IsSeenWay}
use Rattle.file_fills.proofs.Over.{over_has}

-- the same places, by another name of the size
pub over_in : (size size' at end level first until : ℕ) → size ≡ size' → ((j : ℕ) → (is_over size at end level j ≡ true) ↔ ((first ≤ j) × (j < until)))
    → (j : ℕ) → (is_over size' at end level j ≡ true) ↔ ((first ≤ j) × (j < until))
over_in size size' at end level first until same over j = subst (λ n. (is_over n at end level j ≡ true) ↔ ((first ≤ j) × (j < until))) same (over j)

-- ---- what is needed

widen_way : (h : Holding) (P Q : ℕ → Type 0) (most least : ℕ) (m : Missing) → ((i : ℕ) → P i → Q i) → least ≤ most → IsOnWay h P most m → IsOnWay h Q least m
widen_way h P Q most least m wider low (the_dinode block from plain) = the_dinode block from plain
widen_way h P Q most least m wider low (led_to i k level first wanted high leads from until plain) = led_to i k level first (wider i wanted) (omega (arith, low, high)) leads from until plain

-- what is needed for less is needed for more
pub needed_wider : (v : Seen) (h : Holding) (P Q : ℕ → Type 0) (most least : ℕ) → ((i : ℕ) → P i → Q i) → least ≤ most → (m : Missing) → IsNeeded v h P most m → IsNeeded v h Q least m
needed_wider v h P Q most least wider low m needed = record { lock = needed.lock; absent = needed.absent; way = widen_way h P Q most least m wider low needed.way }

-- a block of content to which a pointer leads
pub needed_content : (v : Seen) (h : Holding) (a index : ℕ) (stop : Stop) (regular : Bool) (m : Missing) → IsShown v a h → LeadsOn h 0 index stop → (stop.level ≡ 0) ⊎ (stop.block ≡ 0) → stop.block ≢ 0
    → v.block_at stop.block ≡ None → regular ≡ is_regular (dinode_in h) → m ≡ record { lock = inode_lock a; block = stop.block; plain = regular; from = stop.pointer.from }
    → IsNeeded v h (λ x. x ≡ index) 0 m
needed_content v h a index stop regular m shown leads ended some absent is_regular_in is =
    subst (IsNeeded v h (λ x. x ≡ index) 0) (sym is) (record { lock = ap inode_lock (sym shown.own); absent = absent; way = way (low ended) })
  where
    low : (stop.level ≡ 0) ⊎ (stop.block ≡ 0) → stop.level ≡ 0
    low (inl zero_level) = zero_level
    low (inr none) = absurd (some none)

    first_is : stop.level ≡ 0 → first_of h 0 index stop ≡ index
    first_is e =
        let once : index * 1 ≡ index = omega arith in
        (λ i. place_above h.size 0 index (e i) * span h.size (e i)) ∙ ap (λ n. n * 1) (above_self h.size 0 index) ∙ once

    way : stop.level ≡ 0 → IsOnWay h (λ x. x ≡ index) 0 (record { lock = inode_lock a; block = stop.block; plain = regular; from = stop.pointer.from })
    way e =
        let leads' : Leads h stop.pointer.from stop.pointer.index 0 index stop.block = (subst (λ l. Leads h stop.pointer.from stop.pointer.index l index stop.block) e
        (subst (λ f. Leads h stop.pointer.from stop.pointer.index stop.level f stop.block) (first_is e) (leads some))) in
        led_to index stop.pointer.index 0 index refl (omega arith) leads' (omega arith) (omega arith) is_regular_in

-- ---- what is seen

pub seen_way : (v : Seen) (h : Holding) (index : ℕ) (stop : Stop) → IsFile h → HasBlock v h.own → IsPlace h 0 index → IsStop h 0 index stop → AreSeenAbove v h 0 index stop → (stop.block ≢ 0 → HasBlock v stop.block)
    → IsSeenWay v h index
seen_way v h index stop file dinode place stopped above here = record { dinode = dinode; blocks = blocks }
  where
    blocks : (l : ℕ) → l < height_in h → place_above h.size 0 index l < places_on h l → block_on h l (place_above h.size 0 index l) ≢ 0 → HasBlock v (block_on h l (place_above h.size 0 index l))
    blocks l low within some = elim (cases_lt stop.level l) [
      | inl higher ↦ above l higher low
      | inr no_higher ↦ elim (cases_eq l stop.level) [
        | inl same ↦
            let is : block_on h l (place_above h.size 0 index l) ≡ stop.block = ap (λ n. block_on h n (place_above h.size 0 index n)) same ∙ stopped.passed.leads in
            subst (HasBlock v) (sym is) (here (λ none. some (is ∙ none)))
        | inr other ↦ absurd (lower (stopped.ended) (let less : l < stop.level = omega (arith, no_higher, other) in less))
      ]
    ]
      where
        lower : (stop.level ≡ 0) ⊎ (stop.block ≡ 0) → l < stop.level → ⊥
        lower (inl zero_level) less = omega (arith, zero_level, less)
        lower (inr none) less =
            let ups : l + (stop.level - l) ≡ stop.level = omega (arith, less) in
            let hole : block_on h (l + (stop.level - l)) (place_above h.size l (place_above h.size 0 index l) stop.level) ≡ 0
            = (λ i. block_on h (ups i) (above_above h.size index l stop.level (let le : l ≤ stop.level = omega (arith, less) in le) i)) ∙ stopped.passed.leads ∙ none in
            some (hole_above h file (stop.level - l) l (place_above h.size 0 index l) (omega (arith, ups, stopped.passed.place.low)) within hole)

-- a place above one that isn't there isn't there
pub place_inside : (h : Holding) (index l : ℕ) → IsFile h → l < height_in h → place_above h.size 0 index l < places_on h l → IsPlace h 0 index
place_inside h index l file low within = record {
  low = omega (arith, low);
  within =
      let none : height_in h - 1 - 0 ≡ height_in h - 1 = omega arith in
      subst (λ n. index < fan h.size dinode_length * span h.size n) (sym none)
      (place_below h.size (fan h.size dinode_length) (height_in h - 1) index l (size_large h.size file.block_size) (omega (arith, low)) within);
}

pub seen_nowhere : (v : Seen) (h : Holding) (index : ℕ) → IsFile h → HasBlock v h.own → ¬ (IsPlace h 0 index) → IsSeenWay v h index
seen_nowhere v h index file dinode nowhere = record {
  dinode = dinode;
  blocks = λ l low within some. absurd (nowhere (place_inside h index l file low within));
}

-- the block to which the pointer of content leads is there
pub here_seen : (v : Seen) (h : Holding) (index : ℕ) (stop : Stop) → IsSeenWay v h index → IsStop h 0 index stop → stop.block ≢ 0 → HasBlock v stop.block
here_seen v h index stop way stopped some = here (low stopped.ended)
  where
    low : (stop.level ≡ 0) ⊎ (stop.block ≡ 0) → stop.level ≡ 0
    low (inl zero_level) = zero_level
    low (inr none) = absurd (some none)

    here : stop.level ≡ 0 → HasBlock v stop.block
    here e =
        let place = subst (λ l. IsPlace h l (place_above h.size 0 index l)) e stopped.passed.place in
        let leads : block_on h 0 (place_above h.size 0 index 0) ≡ stop.block = subst (λ l. block_on h l (place_above h.size 0 index l) ≡ stop.block) e stopped.passed.leads in
        subst (HasBlock v) leads (way.blocks 0 place.low place.within (λ none. some (sym leads ∙ none)))

none_of : (v : Seen) (b : ℕ) → HasBlock v b → v.block_at b ≡ None → ⊥
none_of v b (bytes, has) absent = let both : Some bytes ≡ None = sym has ∙ absent in absurd (cc)

pub seen_found : (v : Seen) (h : Holding) (index : ℕ) (stop : Stop) (o : Option Stop) → IsSeenWay v h index → IsStop h 0 index stop → IfSome o (λ found. found ≡ stop) → IfNone o (stop.block ≢ 0) → IfNone o (v.block_at stop.block ≡ None)
    → IsSomeAnd o (IsStop h 0 index)
seen_found v h index stop (Some found) way stopped is some absent = subst (IsStop h 0 index) (sym is) stopped
seen_found v h index stop None way stopped is some absent = absurd (none_of v stop.block (here_seen v h index stop way stopped some) absent)

-- a place above an index, by what stands below it
pub place_at : (size index level j : ℕ) → j * span size level ≤ index → index < j * span size level + span size level → place_above size 0 index level ≡ j
place_at size index level j from until =
    let here : level - 0 ≡ level = omega arith in
    let next : (j + 1) * span size level ≡ j * span size level + span size level = omega arith in
    ap (λ n. index / span size n) here ∙ div-eq_of_lt-le (span size level) from (let below : index < (j + 1) * span size level = omega (arith, until, next) in below)

pub nothing_needed : (v : Seen) (h : Holding) (a index : ℕ) (m : Missing) → IsFile h → IsShown v a h → IsSeenWay v h index → IsNeeded v h (λ x. x ≡ index) 1 m → ⊥
nothing_needed v h a index m file shown way needed = each needed.way
  where
    each : IsOnWay h (λ x. x ≡ index) 1 m → ⊥
    each (the_dinode block from plain) = none_of v h.own way.dinode (ap v.block_at (sym block) ∙ needed.absent)
    each (led_to i k level first wanted high leads from until plain) =
        let part = part_of_led h m.from k level first m.block file.tree leads in
        let found = place_of_part h file m.block level first (m.from, k, part) in
        let same : place_above h.size 0 index level ≡ found.0 = place_at h.size index level found.0 (omega (arith, from, found.1, wanted)) (omega (arith, until, found.1, wanted)) in
        let is : block_on h level (place_above h.size 0 index level) ≡ m.block = ap (block_on h level) same ∙ found.3 in
        let within : place_above h.size 0 index level < places_on h level = subst (λ n. n < places_on h level) (sym same) found.2 in
        let low = file.tree.below m.block m.from k level first part in
        none_of v m.block (subst (HasBlock v) is (way.blocks level low within (λ none. leads_somewhere h m.from k level first m.block leads (sym is ∙ none)))) needed.absent

-- ---- a file breaks nothing

files_have_needed : (h : Holding) → IsFile h → (b kind format : ℕ) → Needs h b kind format → HasHeader kind format (bytes_at h b)
files_have_needed h file _ _ _ of_dinode = file.header
files_have_needed h file _ _ _ (of_indirect b k level first x leads) = file.tree.indirect x b k level first (part_of_led h b k (suc level) first x file.tree leads)
files_have_needed h file _ _ _ (of_table b k first x leads dir) = file.tree.table x b k first dir (part_of_led h b k 0 first x file.tree leads)

within_of_led : (h : Holding) (b k level first c : ℕ) → HasTree h → Leads h b k level first c → first < content_count h
within_of_led h _ _ _ _ _ tree (from_dinode k level high low some) = (tree.top level high k low some).within
within_of_led h _ _ _ _ _ tree (from_block b k level first c j leads low some) = (tree.inner c b k level first (part_of_led h b k (suc level) first c tree leads) j low some).within

pub files_break_nothing : (h : Holding) (rule b : ℕ) → IsFile h → IsBroken h rule b → ⊥
files_break_nothing h _ _ file (no_header b kind format needs lacks) = lacks (files_have_needed h file b kind format needs)
files_break_nothing h _ _ file (other_address other) = other file.address
files_break_nothing h _ _ file (no_number none) = none_number file.number none
  where
    none_number : (dinode_in h).num.number ≢ 0 → (dinode_in h).num.number ≡ 0 → ⊥
    none_number some none = some none
files_break_nothing h _ _ file (no_mode no_dir no_file) = both_ways (is_regular (dinode_in h)) no_file file.regular
files_break_nothing h _ _ file (too_high high) = omega (arith, high, file.fits.low)
files_break_nothing h _ _ file (too_large_for_dinode stuffed large) = omega (arith, large, file.fits.stuffed stuffed)
files_break_nothing h _ _ file (too_large_for_height level high large) = omega (arith, large, file.fits.under level high)
files_break_nothing h _ _ file (past_end b k level first c leads past) = omega (arith, past, within_of_led h b k level first c file.tree leads)

pub no_damage : (h : Holding) (fault : CallFault) → IsFile h → IsDamage (IsBroken h) fault → ⊥
no_damage h (Damaged block rule) file told = files_break_nothing h rule block file told
no_damage h NoMemory file told = told

-- ---- at an index below a place over the bytes

pub over_under : (h : Holding) (size at end level j : ℕ) → size ≡ h.size → 512 ≤ h.size → is_over size at end level j ≡ true → (i : ℕ) × HasBytes h.size at end i × IsUnder h level j i
over_under h size at end level j same large over =
    let found = over_has h.size at end level j large (subst (λ n. is_over n at end level j ≡ true) same over) in
    (found.0, found.1, record { from = found.2; until = found.3 })

pub under_self : (h : Holding) (index : ℕ) → IsUnder h 0 index index
under_self h index =
    let once : index * 1 ≡ index = omega arith in
    let next : (index + 1) * 1 ≡ index + 1 = omega arith in
    record { from = omega (arith, once); until = omega (arith, next) }

pub always : {A : Type 0} (result : Result (Step A) CallFault) (P : Type 0) → P → IfIs result (λ answer. P)
always (Ok (Is answer)) P p = p
always (Ok (NeedBlock missing)) P p = tt
always (Err fault) P p = tt

-- how many blocks of content a dinode that was read asks for
pub count_is : (v : Seen) (h : Holding) (a size : ℕ) (d : Dinode) → IsShown v a h → d ≡ dinode_in h → size ≡ v.size → count_in size d ≡ content_count h
count_is v h a size d shown d_is same = (λ i. count_in ((same ∙ sym shown.size) i) (d_is i))
