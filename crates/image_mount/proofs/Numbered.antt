-- The journals among the records of their directory.
use Rattle.std.proofs.Common.{◌≡◌, ◌≢◌, inl, inr, ℕ, ◌+◌, ◌<◌, ◌≤◌, Bool, true, false, List, length, get_or, Option, None, Some, sym, ap, subst, ◌∙◌, arith}
use Rattle.std.specs.Prelude.{map, not, Contains, slice_get, IfSome, IfNone}
use Rattle.std.proofs.lemmas.Bool.{cases_eq}
use Rattle.std.proofs.lemmas.Option.{slice_get-get_or, slice_get_within, get_or_from_slice_get}
use Rattle.gfs2_layout.specs.Inode.{is_hashed_in}
use Rattle.gfs2_layout.specs.Records.{Record, is_dots}
use Rattle.image_model.specs.Claims.{every, LeadsTo, master_of}
use Rattle.image_model.specs.Image.{Image}
use Rattle.image_model.specs.Journals.{journal_name}
use Rattle.image_model.specs.Rules.{HasRecords}
use Rattle.image_model.specs.Stands.{Layout}
use Rattle.image_mount.specs.Groups.{IsNamedIn}
use Rattle.image_mount.specs.Looks.{HasSoundLeaves, IsLookedAt, IsSoundDirectory}
use Rattle.image_mount.specs.Found.{HasGroups, name_count, AreJournalNames}
use Rattle.image_mount.specs.Listing.{said, AreAllRecords, AreRecordsOf, AreDistinct}
use Rattle.image_mount.specs.Refusals.{RefusesRightly}
use Rattle.image_mount.specs.Refusals as outside
use Rattle.image_mount.specs.System.{AreAmong, IsAmong, LacksName, AreNamesOf, AreJournalsAmong, AreJournalsOf, AreRecordsAnew}
use Rattle.image_mount.specs.declared.fault.MountFault.{MountFault}
use Rattle.image_mount.specs.declared.fault.MountFault.TheVariants as fault
use Rattle.image_mount.specs.declared.field.Field.TheVariants as field
use Rattle.image_mount.specs.Sifting.{IsBeside}
use Rattle.image_mount.specs.declared.leaf.Names.TheVariants.{Journals}
use Rattle.image_mount.specs.declared.listing.Link.{Link}
use Rattle.image_mount.specs.declared.listing.Named.{Named as Item}
use Rattle.image_mount.proofs.Causes.{told_outside}
use Rattle.image_mount.proofs.JournalNames.{name_leads}
use Rattle.image_mount.proofs.Names.{at_contains, contains_at, mapped_at, from_mapped, records_same, named_in, led_among}

-- the first so many of these that lead on have the names of so many journals
abbrev pub AreNamedTo : List Item → ℕ → ℕ → Type 0
AreNamedTo items n count = (i : ℕ) (x : Item) → i < n → slice_get items i ≡ Some x → is_dots x.name.now ≡ false → (j : ℕ) × (j < count) × (x.name.now ≡ journal_name j)

pub named_more : (items : List Item) (n : ℕ) (d : Item) (count : ℕ) (leads_on : Bool) → leads_on ≡ not (is_dots (get_or items n d).name.now) → AreNamedTo items n count
    → (leads_on ≡ true → (j : ℕ) × (j < count) × ((get_or items n d).name.now ≡ journal_name j)) → AreNamedTo items (n + 1) count
named_more items n d count leads_on told before here i x low at leads = elim (cases_eq i n) [
  | inr other ↦ before i x (omega (arith, low, other)) at leads
  | inl same ↦
      let is : get_or items n d ≡ x = get_or_from_slice_get items n x d (ap (slice_get items) (sym same) ∙ at) in
      let got = here (told ∙ ap not (ap (λ (y : Item). is_dots y.name.now) is ∙ leads)) in
      (got.0, got.1, ap (λ (y : Item). y.name.now) (sym is) ∙ got.2)
]

pub named_all : (items : List Item) (n count : ℕ) → length items ≤ n → AreNamedTo items n count → AreNamesOf (map said items) count
named_all items n count all named r there leads =
    let item = from_mapped said items there.0 r (contains_at (map said items) r there) in
    let got = named there.0 item.0 (omega (arith, all, slice_get_within items there.0 item.0 item.1)) item.1 (ap (λ (x : Record). is_dots x.name) item.2 ∙ leads) in
    (got.0, got.1, sym (ap (λ (x : Record). x.name) item.2) ∙ got.2)

pub other_name : (items : List Item) (n : ℕ) (d : Item) (count : ℕ) → n < length items → is_dots (get_or items n d).name.now ≡ false
    → ((j : ℕ) → j < count → (get_or items n d).name.now ≢ journal_name j) → AreNamesOf (map said items) count → ⊥
other_name items n d count low leads none names =
    let x = get_or items n d in
    let got = names (said x) (at_contains (map said items) n (said x) (mapped_at said items n x (slice_get-get_or items n d low))) leads in
    none got.0 got.1 got.2

-- the names are told by the count of the records and by each of them
pub names_anew : (xs ys : List Record) (n : ℕ) → name_count ys ≡ name_count xs → ((r : Record) → Contains ys r → Contains xs r) → ((r : Record) → Contains xs r → Contains ys r) → AreJournalNames xs n → AreJournalNames ys n
names_anew xs ys n count there other names = (count ∙ names.0, λ j low. let r = names.1 j low in (r.0, other r.0 r.1, r.2), λ r has leads. names.2 r (there r has) leads)

pub wrong_journals : (im : Image) (l : Layout) (records : List Record) (f : MountFault) (count : ℕ) → HasGroups im l → IsLookedAt im l.jindex → AreRecordsAnew im l.jindex records → f ≡ fault.NotProfile field.Journals count
    → count ≡ name_count records → ((1 ≤ count) × (count ≤ 8) × AreJournalNames records count → ⊥) → RefusesRightly im f
wrong_journals im l records f count groups looked are is counted wrong =
    let same : count ≡ name_count are.all = counted ∙ sym are.count in
    told_outside im f field.Journals (name_count are.all) (is ∙ ap (fault.NotProfile field.Journals) same)
    (outside.journals l are.all groups looked are.has
    (λ all. wrong (omega (arith, all.0, same), omega (arith, all.1, same), subst (AreJournalNames records) (sym same) (names_anew are.all records (name_count are.all) (sym are.count) are.other are.there all.2))))

pub lacks_journal : (items : List Item) (n count : ℕ) → n ≡ count → (j : ℕ) × (j < n) × LacksName items (journal_name j) → AreJournalNames (map said items) count → ⊥
lacks_journal items n count same lacks names =
    let at = names.1 lacks.0 (omega (arith, same, lacks.1)) in
    let item = from_mapped said items at.1.0 at.0 (contains_at (map said items) at.0 at.1) in
    lacks.2 at.1.0 item.0 item.1 (ap (λ (x : Record). x.name) item.2 ∙ at.2)

no_link : Link
no_link = record { entry = record { number = 0; addr = 0; kind = 0 }; from = 0 }

-- where there are records with other names, they aren't those of journals alone
pub beside_journals : (records : List Record) (n : ℕ) (r : Record) → n ≤ 8 → Contains records r → IsBeside Journals r.name → AreJournalNames records n → ⊥
beside_journals records n r few there beside names = let got = names.2 r there beside.0 in beside.1 got.0 (omega (arith, got.1, few)) got.2

pub journals_among : (items : List Item) (journals : List Link) (n count : ℕ) → n ≡ count → count ≡ name_count (map said items) → 1 ≤ count → count ≤ 8 → length journals ≡ n → AreAmong items journals
    → AreNamesOf (map said items) n → AreJournalsAmong items journals
journals_among items journals n count same counted some few length_is among names = record {
  some = omega (arith, some, same, length_is);
  few = omega (arith, few, same, length_is);
  named = (
    sym counted ∙ sym same ∙ sym length_is,
    λ j low.
        let there = among j (get_or journals j no_link) (slice_get-get_or journals j no_link low) in
        (said there.item, at_contains (map said items) there.index (said there.item) (mapped_at said items there.index there.item there.there), there.named),
    λ r there leads. let got = names r there leads in (got.0, omega (arith, got.1, length_is), got.2),
  );
  each = among;
}

pub journals_of : (im : Image) (a : ℕ) (items : List Item) (journals : List Link) → IsLookedAt im a → IsSoundDirectory im a (master_of im) → (is_hashed_in (every im a) ≡ true → HasSoundLeaves im a) → AreAllRecords im a items → AreDistinct (map said items)
    → ((records : List Record) → HasRecords im a records → AreJournalNames records (length journals)) → AreJournalsAmong items journals → AreJournalsOf im a journals
journals_of im a items journals looked sound leaves are distinct all among = record {
  looked = looked;
  sound = sound;
  leaves = leaves;
  some = among.some;
  few = among.few;
  named = all;
  each = named;
  others = λ name d way.
      let led = led_among im a items name d are way in
      let row = said led.among.item in
      let there = at_contains (map said items) led.among.index row (mapped_at said items led.among.index led.among.item led.among.there) in
      let got = among.named.2 row there (ap is_dots led.among.named ∙ led.leads) in
      let link = get_or journals got.0 no_link in
      let at = slice_get-get_or journals got.0 no_link got.1 in
      let name_is : name ≡ journal_name got.0 = sym led.among.named ∙ got.2 in
      (got.0, (link, at, sym ((named got.0 link at).only d (subst (λ n. LeadsTo im a n d) name_is way)), name_is));
}
  where
    named : (j : ℕ) (link : Link) → slice_get journals j ≡ Some link → IsNamedIn im a link.from (journal_name j) link.entry
    named j link at =
        let there = among.each j link at in
        let entry : IsAmong items (journal_name j) link.entry = record { index = there.index; item = there.item; there = there.there; named = there.named; entry_is = ap (λ (l : Link). l.entry) there.link_is } in
        subst (λ x. IsNamedIn im a x (journal_name j) link.entry) (ap (λ (l : Link). l.from) there.link_is) (named_in im a items (journal_name j) link.entry are distinct (name_leads j) entry)

-- the names of a linear one
pub linear_names : (im : Image) (a : ℕ) (items : List Item) (journals : List Link) → AreRecordsOf im a (map said items) → AreJournalsAmong items journals → (records : List Record) → HasRecords im a records → AreJournalNames records (length journals)
linear_names im a items journals are among records has = subst (λ rs. AreJournalNames rs (length journals)) (sym (records_same im a records (map said items) are has)) among.named

-- ---- what is said of an option, where it is known which one it is

pub at_some : {X : Type 0} (o : Option X) (x : X) (P : X → Type 0) → o ≡ Some x → IfSome o P → P x
at_some o x P is holds = subst (λ p. IfSome p P) is holds

pub at_none : {X : Type 0} (o : Option X) (P : Type 0) → o ≡ None → IfNone o P → P
at_none o P is holds = subst (λ p. IfNone p P) is holds
