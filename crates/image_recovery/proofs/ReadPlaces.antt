-- The places of a mounted image's journals are blocks that are reached.
use Rattle.std.proofs.Common.{◌≡◌, ◌≢◌, ℕ, zero, suc, ◌+◌, ◌*◌, ◌/◌, ◌%◌, ◌≤◌, ◌<◌, length, get_or, inr, refl, sym, ap, subst, ◌∙◌, arith, div-add-mod'}
use Rattle.std.proofs.lemmas.List.FromFn.{get_or-map-range_with_len, length-map-range_with_len}
use Rattle.std.proofs.lemmas.Option.{slice_get_within}
use Rattle.std.proofs.Math.Nat.{mod-lt, div-lt_iff_lt-mul}
use Rattle.dinode_tree.proofs.Pointers.{descend_one, descend_top, descend_zero, leads_somewhere}
use Rattle.dinode_tree.proofs.Spans.{span_some}
use Rattle.gfs2_layout.specs.Holding.{Holding}
use Rattle.gfs2_layout.specs.Inode.{Leads, from_dinode, from_block, content_block, content_count, descend, fan, header_length, height_in, pointer, span}
use Rattle.gfs2_layout.specs.Structures.{dinode_length}
use Rattle.image_model.specs.Claims.{every}
use Rattle.image_model.specs.Image.{Image}
use Rattle.image_model.specs.Stands.{IsJournalAt}
use Rattle.image_model.specs.SystemFiles.{is_journal, of_content}
use Rattle.image_mount.specs.Found.{IsReached}
use Rattle.image_mount.specs.Mounted.{IsMounted, MountedValue}
use Rattle.image_replays.specs.Replays.{IsReadPlace}
use Rattle.image_replays.proofs.System.{has_journal, some_at}
use Rattle.image_recovery.proofs.JournalPlaces.{place_high, place_within}
use Rattle.log_layout.specs.Journal.{ring_of}

-- a pointer leads to this block of content, of this index
abbrev IsContentAt : Holding → ℕ → ℕ → Type 0
IsContentAt h i c = (from : ℕ) × ((k : ℕ) × Leads h from k 0 i c)

-- a block of content below one that is led to is led to
led_down : (h : Holding) → 512 ≤ h.size → (level b i from k first : ℕ) → Leads h from k level first b → i < span h.size level → descend h level b i ≢ 0 → IsContentAt h (first + i) (descend h level b i)
led_down h large zero b i from k first leads low some =
    let same : first ≡ first + i = omega (arith, low) in
    (from, (k, subst (λ n. Leads h from k 0 n b) same leads))
led_down h large (suc level) b i from k first leads low some =
    let s = span h.size level in
    let j = i / s in
    let p = pointer h header_length b j in
    let rest = i % s in
    let down : descend h (suc level) b i ≡ descend h level p rest = descend_one h level b i (leads_somewhere h from k (suc level) first b leads) in
    let there : p ≢ 0 = λ none. some (down ∙ ap (λ c. descend h level c rest) none ∙ descend_zero h level rest) in
    let next = from_block from k level first b j leads ((div-lt_iff_lt-mul (span_some h.size level large)).1 low) there in
    let found = led_down h large level p rest b j (first + j * s) next (mod-lt i (span_some h.size level large)) (λ none. some (down ∙ none)) in
    let same : first + j * s + rest ≡ first + i = omega (arith, div-add-mod' i s) in
    subst (λ n. IsContentAt h n (descend h (suc level) b i)) same (subst (IsContentAt h (first + j * s + rest)) (sym down) found)

-- so is a block of content below the dinode
led_there : (h : Holding) → 512 ≤ h.size → (level i : ℕ) → height_in h ≡ suc level → i < fan h.size dinode_length * span h.size level → content_block h i ≢ 0 → IsContentAt h i (content_block h i)
led_there h large level i high within some =
    let s = span h.size level in
    let k = i / s in
    let p = pointer h dinode_length h.own k in
    let rest = i % s in
    let down : content_block h i ≡ descend h level p rest = descend_top h level i high in
    let goes : descend h level p rest ≢ 0 = λ none. some (down ∙ none) in
    let there : p ≢ 0 = λ none. goes (ap (λ c. descend h level c rest) none ∙ descend_zero h level rest) in
    let low : k < fan h.size dinode_length = (div-lt_iff_lt-mul (span_some h.size level large)).1 within in
    let found = led_down h large level p rest h.own k (k * s) (from_dinode k level high low there) (mod-lt i (span_some h.size level large)) goes in
    let same : k * s + rest ≡ i = omega (arith, div-add-mod' i s) in
    subst (λ n. IsContentAt h n (content_block h i)) same (subst (IsContentAt h (k * s + rest)) (sym down) found)

module _ (im : Image) (m : MountedValue) (is : IsMounted im m) (large : 512 ≤ im.size) where
  module _ (j d : ℕ) (at : IsJournalAt is.layout j d) (p : ℕ) (low : p < (ring_of (every im d)).places) where
    abbrev b : ℕ
    b = content_block (every im d) p

    -- the block at a place is a data block of a group
    place_inside : (b < im.count) × (b ≢ 0)
    place_inside =
        let of = is.looked.places j p b (record { dinode = d; at = at; low = low; is = refl }) in
        let fit = is.found.groups.fit.each of.0 of.1 in
        let first : of.0.data0 ≡ of.0.address + of.0.length = fit.first in
        let some : 1 ≤ of.0.length = fit.some in
        let least : of.0.data0 ≤ b = of.2.low in
        let high : b < of.0.data0 + of.0.data_blocks = of.2.high in
        let ends : of.0.data0 + of.0.data_blocks ≤ im.count = fit.inside in
        (omega (arith, high, ends), λ none. let e : b ≡ 0 = none in omega (arith, e, least, first, some))

    place_low : p < content_count (every im d)
    place_low = place_within im m is large j d at p low

    place_led : IsContentAt (every im d) p b
    place_led =
        let high = place_high im m is large j d at p low in
        let under : content_count (every im d) ≤ fan im.size dinode_length * span im.size high.0 = (is.looked.journals j d at).dinode.fits.under high.0 high.1 in
        led_there (every im d) large high.0 p high.1 (omega (arith, place_low, under)) place_inside.1

    place_reached : IsReached im b
    place_reached =
        let led = place_led in
        record { inside = place_inside.0; system = of_content d led.0 led.1.0 0 p (is_journal j (has_journal im m is j d at)) led.1.1 place_low; format = inr is.found.groups.list.master.format }

  -- a block that is read for a replay is reached
  pub read_reached : (b : ℕ) → IsReadPlace m.journals b → IsReached im b
  read_reached b place =
      let i = place.index in
      let x = place.journal in
      let d = some_at is.layout.journals i (subst (λ k. i < k) is.count (slice_get_within m.journals i x place.at)) in
      let of = is.journals i d.0 x d.1 place.at in
      let n = (ring_of (every im d.0)).places in
      let k = place.is.0 in
      let long : length x.blocks ≡ n = ap length of.blocks ∙ length-map-range_with_len (content_block (every im d.0)) 0 n in
      let low : k < n = subst (λ t. k < t) long place.is.1 in
      let z : 0 + k ≡ k = omega arith in
      let value : content_block (every im d.0) k ≡ b
      = sym (get_or-map-range_with_len (content_block (every im d.0)) 0 n k k b low z) ∙ sym (ap (λ bs. get_or bs k b) of.blocks) ∙ place.is.2 in
      subst (IsReached im) value (place_reached i d.0 d.1 k low)
