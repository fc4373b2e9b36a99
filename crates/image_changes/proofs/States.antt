-- Groups that a change leaves alone, and the state of a block put.
use Rattle.std.proofs.Common.{◌≡◌, ◌⊎◌, inl, inr, ℕ, ◌+◌, ◌<◌, ◌==◌, true, false, List, get_or, sym, ap, ◌∙◌, subst, arith, cond}
use Rattle.std.specs.Prelude.{map, slice_set}
use Rattle.std.specs.List.{range_with_len, list_any, AllByRecursion}
use Rattle.std.proofs.lemmas.Bool.{cases_Bool}
use Rattle.std.proofs.lemmas.List.{ext_get_or}
use Rattle.std.proofs.lemmas.List.FromFn.{length-map-range_with_len}
use Rattle.gfs2_layout.specs.declared.group_header.GroupHeader.{GroupHeader}
use Rattle.gfs2_layout.specs.Headers.{HasHeader}
use Rattle.gfs2_layout.specs.Bitmap.{state_at}
use Rattle.gfs2_layout.specs.States.{places_in}
pub use Rattle.gfs2_layout.proofs.StatePuts.{map_same}
use Rattle.gfs2_layout.proofs.StatePuts.{states_put, count_put, get_map, puts_header, puts_more, puts_others, puts_free, puts_dinodes, puts_said, places_low, one_among, has_any, any_has}
use Rattle.gfs2_layout.specs.Groups.{bitmap_of, group_header, states_in, count_of, one_if, uncounted}
use Rattle.image_model.specs.Groups.{group_blocks, states_of, state_of, IsGroup}
use Rattle.image_changes.specs.States.{GroupsStay, StateIsPut, OtherGeneration, TableSays, BlocksAreFreed, BlocksAreSet}

pub groups_stay : GroupsStay
groups_stay im im' o o' g headers states is = subst (λ blocks. IsGroup g blocks (states_of o' g)) (sym (map_same im'.at im.at g.address g.length (λ b low high. headers b (record { low = low; high = high }))))
    (subst (IsGroup g (group_blocks im.at g)) (sym (map_same (λ b. state_of (o' b)) (λ b. state_of (o b)) g.data0 g.data_blocks (λ b low high. states b (record { low = low; high = high })))) is)

pub state_is_put : StateIsPut
state_is_put g old new states i state is low inside four put = record {
  header = put.header;
  more = λ k low high. put.more k low (is.more k low high);
  data0 = ap (λ (h : GroupHeader). h.data0) put.others ∙ is.data0;
  data_blocks = ap (λ (h : GroupHeader). h.data_blocks) put.others ∙ is.data_blocks;
  bitbytes = ap (λ (h : GroupHeader). h.bitbytes) put.others ∙ is.bitbytes;
  bits = says;
  free = counted 0 (group_header old).free (group_header new).free is.free put.free;
  dinodes = counted 3 (group_header old).dinodes (group_header new).dinodes is.dinodes put.dinodes;
}
  where
    says : states_in new g.data_blocks ≡ slice_set states i state
    says = states_put (bitmap_of old) (bitmap_of new) g.data_blocks i state low inside four put.bits ∙ ap (λ s. slice_set s i state) is.bits

    counted : (x before after : ℕ) → before ≡ count_of x states → after + one_if (state_at (bitmap_of old) i == x) ≡ before + one_if (state == x) → after ≡ count_of x (slice_set states i state)
    counted x before after e f = count_put (bitmap_of old) (bitmap_of new) g.data_blocks i state x before after low inside four put.bits (e ∙ ap (count_of x) (sym is.bits)) f ∙ ap (count_of x) says

pub other_generation : OtherGeneration
other_generation g old new states n is header more same bits = record {
  header = header;
  more = λ k low high. subst (HasHeader 3 300) (sym (more k low)) (is.more k low high);
  data0 = ap (λ (h : GroupHeader). h.data0) same ∙ is.data0;
  data_blocks = ap (λ (h : GroupHeader). h.data_blocks) same ∙ is.data_blocks;
  bitbytes = ap (λ (h : GroupHeader). h.bitbytes) same ∙ is.bitbytes;
  bits = ap (λ b. map (state_at b) (range_with_len 0 g.data_blocks)) bits ∙ is.bits;
  free = ap (λ (h : GroupHeader). h.free) same ∙ is.free;
  dinodes = ap (λ (h : GroupHeader). h.dinodes) same ∙ is.dinodes;
}

pub table_says : TableSays
table_says o g states long each = ext_get_or 0 states (states_of o g) (long ∙ sym (length-map-range_with_len (λ b. state_of (o b)) g.data0 g.data_blocks))
    (λ i low. each i (subst (λ n. i < n) long low) ∙ sym (get_map (λ b. state_of (o b)) g.data0 g.data_blocks i 0 (subst (λ n. i < n) long low)))

-- ---- one state put at several blocks

pub blocks_are_set : BlocksAreSet
blocks_are_set im im' o o' g blocks state four long these others are is = record {
  header = puts_header old new places state are is.header;
  more = λ k low high. puts_more old new places state k are low (is.more k low high);
  data0 = ap (λ (h : GroupHeader). h.data0) same ∙ is.data0;
  data_blocks = ap (λ (h : GroupHeader). h.data_blocks) same ∙ is.data_blocks;
  bitbytes = ap (λ (h : GroupHeader). h.bitbytes) same ∙ is.bitbytes;
  bits = says;
  free = puts_free old new places g.data_blocks state low long four are (is.free ∙ ap (count_of 0) (sym is.bits)) ∙ ap (count_of 0) says;
  dinodes = puts_dinodes old new places g.data_blocks state low long four are (is.dinodes ∙ ap (count_of 3) (sym is.bits)) ∙ ap (count_of 3) says;
}
  where
    old : List (List ℕ)
    old = group_blocks im.at g

    new : List (List ℕ)
    new = group_blocks im'.at g

    places : List ℕ
    places = places_in g.data0 g.data_blocks blocks

    same : uncounted (group_header new) ≡ uncounted (group_header old)
    same = puts_others old new places state are

    low : AllByRecursion (λ i. i < g.data_blocks) places
    low = places_low g.data0 g.data_blocks blocks

    at : (n : ℕ) → 0 + n ≡ n
    at n = omega arith

    was : (i : ℕ) → i < g.data_blocks → state_at (bitmap_of old) i ≡ state_of (o (g.data0 + i))
    was i low = sym (get_map (state_at (bitmap_of old)) 0 g.data_blocks i 0 low ∙ ap (state_at (bitmap_of old)) (at i)) ∙ ap (λ s. get_or s i 0) is.bits
        ∙ get_map (λ b. state_of (o b)) g.data0 g.data_blocks i 0 low

    ends : (i : ℕ) → i < g.data_blocks → (list_any (λ b. b == g.data0 + i) blocks ≡ true) ⊎ (list_any (λ b. b == g.data0 + i) blocks ≡ false)
        → cond (list_any (λ b. b == g.data0 + i) blocks) state (state_at (bitmap_of old) i) ≡ state_of (o' (g.data0 + i))
    ends i within (inl is_there) = ap (λ t. cond t state (state_at (bitmap_of old) i)) is_there
        ∙ sym (these (g.data0 + i) (record { low = omega arith; high = omega (arith, within) }) (has_any blocks (g.data0 + i) is_there))
    ends i within (inr lacks) = ap (λ t. cond t state (state_at (bitmap_of old) i)) lacks ∙ was i within
        ∙ sym (others (g.data0 + i) (record { low = omega arith; high = omega (arith, within) }) (λ has. let both : true ≡ false = sym (any_has blocks (g.data0 + i) has) ∙ lacks in cc))

    says : states_in new g.data_blocks ≡ states_of o' g
    says = table_says o' g (states_in new g.data_blocks) (length-map-range_with_len (state_at (bitmap_of new)) 0 g.data_blocks)
        (λ i within. get_map (state_at (bitmap_of new)) 0 g.data_blocks i 0 within ∙ ap (state_at (bitmap_of new)) (at i)
        ∙ puts_said old new places g.data_blocks state i low long four are
        ∙ ap (λ t. cond t state (state_at (bitmap_of old) i)) (one_among g.data0 g.data_blocks i blocks within)
        ∙ ends i within (cases_Bool (list_any (λ b. b == g.data0 + i) blocks)))

pub blocks_are_freed : BlocksAreFreed
blocks_are_freed im im' o o' g blocks long free others are is = blocks_are_set im im' o o' g blocks 0 (omega arith) long free others are is
