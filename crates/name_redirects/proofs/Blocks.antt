-- A block in which a name's record was led elsewhere: what stands before its records, and what these say.
use Rattle.std.proofs.Common.{◌≡◌, ℕ, ◌+◌, ◌≤◌, true, List, [], ◌∷◌, ◌++◌, length, take, drop, Some, refl, sym, ap, ◌∙◌, subst, arith, length-drop}
use Rattle.std.specs.Int.{Width, w16, w32, w64, byte_len, to_be_bytes}
use Rattle.std.specs.Option.{option_map}
use Rattle.std.proofs.lemmas.List.{take-append-le, take-take, length-take-le}
use Rattle.gfs2_layout.specs.Area.{Slot, name_of, slots_of}
use Rattle.gfs2_layout.specs.Bytes.{u32_at, with_number}
use Rattle.gfs2_layout.specs.Cutting.{slot_from}
use Rattle.gfs2_layout.specs.Exchanges.{IsCounted, IsExchanged}
use Rattle.gfs2_layout.specs.Headers.{HasHeader}
use Rattle.gfs2_layout.specs.Records.{IsRecordArea, Record, record_named, record_of, records_in}
use Rattle.gfs2_layout.specs.Structures.{dinode_of, is_in_use, leaf_of}
use Rattle.gfs2_layout.specs.declared.dinode.Dinode.{Dinode}
use Rattle.gfs2_layout.specs.declared.inum.Inum.{Inum}
use Rattle.gfs2_layout.proofs.Exchanged.{first_has_name, first_record}
use Rattle.gfs2_layout.proofs.InPlace.{is_width_64, length-with}
use Rattle.gfs2_layout.proofs.Places.{number_front}
use Rattle.gfs2_layout.proofs.Records.{area_on, record_length}
use Rattle.name_redirects.specs.Leading.{record_led_to, with_inum}
use Rattle.name_redirects.specs.Redirects.{IsNameLed}
use Rattle.name_redirects.proofs.Led.{leads, led_area}

-- ---- what stands before

take_with : (k at n : ℕ) (bytes : List ℕ) → k ≤ at → at ≤ length bytes → take k (with_number w64 at n bytes) ≡ take k bytes
unfolding with_number
take_with k at n bytes low inside =
    take-append-le k (take at bytes) (to_be_bytes w64 n ++ drop (at + length (to_be_bytes w64 n)) bytes) (omega (arith, length-take-le at bytes inside, low))
    ∙ take-take k at bytes low

take_inum : (k at : ℕ) (inum : Inum) (bytes : List ℕ) → k ≤ at → at + 16 ≤ length bytes → take k (with_inum at inum bytes) ≡ take k bytes
take_inum k at inum bytes low inside =
    let first = with_number w64 at inum.number bytes in
    let size = length-with w64 at inum.number bytes is_width_64 (omega (arith, inside)) in
    take_with k (at + 8) inum.address first (omega (arith, low)) (omega (arith, size, inside)) ∙ take_with k at inum.number bytes low (omega (arith, inside))

length_inum : (at : ℕ) (inum : Inum) (bytes : List ℕ) → at + 16 ≤ length bytes → length (with_inum at inum bytes) ≡ length bytes
length_inum at inum bytes inside =
    let size = length-with w64 at inum.number bytes is_width_64 (omega (arith, inside)) in
    length-with w64 (at + 8) inum.address (with_number w64 at inum.number bytes) is_width_64 (omega (arith, size, inside)) ∙ size

-- the same in front is the same dinode, and the same head of a leaf
pub dinode_front : (a b : List ℕ) → take 232 a ≡ take 232 b → dinode_of a ≡ dinode_of b
dinode_front a b same =
    let at = λ (w : Width) (place : ℕ) (h : place + byte_len w ≤ 232). number_front w place 232 a b h same in
    λ t. record {
      num = record { number = at w64 24 (omega arith) t; address = at w64 32 (omega arith) t };
      mode = at w32 40 (omega arith) t;
      uid = at w32 44 (omega arith) t;
      gid = at w32 48 (omega arith) t;
      nlink = at w32 52 (omega arith) t;
      size = at w64 56 (omega arith) t;
      blocks = at w64 64 (omega arith) t;
      atime = at w64 72 (omega arith) t;
      mtime = at w64 80 (omega arith) t;
      ctime = at w64 88 (omega arith) t;
      major = at w32 96 (omega arith) t;
      minor = at w32 100 (omega arith) t;
      goal_meta = at w64 104 (omega arith) t;
      goal_data = at w64 112 (omega arith) t;
      generation = at w64 120 (omega arith) t;
      flags = at w32 128 (omega arith) t;
      payload_format = at w32 132 (omega arith) t;
      height = at w16 138 (omega arith) t;
      depth = at w16 146 (omega arith) t;
      entries = at w32 148 (omega arith) t;
      eattr = at w64 168 (omega arith) t;
      atime_nsec = at w32 176 (omega arith) t;
      mtime_nsec = at w32 180 (omega arith) t;
      ctime_nsec = at w32 184 (omega arith) t;
    }

pub leaf_front : (a b : List ℕ) → take 104 a ≡ take 104 b → leaf_of a ≡ leaf_of b
leaf_front a b same =
    let at = λ (w : Width) (place : ℕ) (h : place + byte_len w ≤ 104). number_front w place 104 a b h same in
    λ t. record { depth = at w16 24 (omega arith) t; entries = at w16 26 (omega arith) t; next = at w64 32 (omega arith) t }

pub word_front : (k place : ℕ) (a b : List ℕ) → place + 4 ≤ k → take k a ≡ take k b → u32_at place a ≡ u32_at place b
word_front k place a b low same = number_front w32 place k a b low same

pub header_front : (k kind format : ℕ) (a b : List ℕ) → 24 ≤ k → take k a ≡ take k b → HasHeader kind format b → HasHeader kind format a
header_front k kind format a b large same is = record {
  magic_is = word_front k 0 a b (omega (arith, large)) same ∙ is.magic_is;
  kind_is = word_front k 4 a b (omega (arith, large)) same ∙ is.kind_is;
  format_is = word_front k 16 a b (omega (arith, large)) same ∙ is.format_is;
}

-- ---- the block

module _ (start : ℕ) (old new name : List ℕ) (inum : Inum) (large : start ≤ length old) (led : IsNameLed start old new name inum) where
  abbrev area : List ℕ
  area = drop start old

  abbrev pub slot : Slot
  slot = slot_from led.place area

  fits : start + led.place + 16 ≤ length old
  fits =
      let size = length-drop start old in
      let rest = length-drop led.place area in
      let on = area_on (drop led.place area) (omega (arith, rest, led.at.within)) led.at.later in
      let long = record_length (drop led.place area) on.good in
      omega (arith, long.0, long.1, rest, size, led.at.within, large)

  pub same_front : take start new ≡ take start old
  same_front = ap (take start) led.bytes ∙ take_inum start (start + led.place) inum old (omega arith) fits

  pub same_length : length new ≡ length old
  same_length = ap length led.bytes ∙ length_inum (start + led.place) inum old fits

  named : (is_in_use slot.head ≡ true) × (name_of slot ≡ name)
  named = first_has_name name (slots_of area) slot led.first

  -- the name's record
  pub is_named : record_named (records_in area) name ≡ Some (record_of slot)
  is_named = sym (first_record area name) ∙ ap (option_map record_of) led.first

  module _ (some : inum.number ≡ 0 → ⊥) (some' : inum.address ≡ 0 → ⊥) where
    pub exchanged : IsExchanged (records_in area) (records_in (drop start new)) (record_of slot ∷ []) (record_led_to inum (record_of slot) ∷ [])
    exchanged = leads area (drop start new) led.place inum led.at named.0 some some' led.slots

    pub area_again : IsRecordArea area → IsRecordArea (drop start new)
    area_again is = led_area area (drop start new) led.place inum led.at named.0 some some' led.slots is led.filled

-- a dinode counts as many records and links
pub counted_still : (d d' : Dinode) (inum : Inum) (r : Record) → d' ≡ d → IsCounted d d' (r ∷ []) (record_led_to inum r ∷ [])
counted_still d d' inum r same = subst (λ e. IsCounted d e (r ∷ []) (record_led_to inum r ∷ [])) (sym same) (record { entries = refl; links = refl })
