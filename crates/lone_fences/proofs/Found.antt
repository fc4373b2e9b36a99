-- What was found of a head.
use Rattle.std.proofs.Common.{◌≡◌, Option, None, Some, Ok, Err, refl}
use Rattle.std.specs.Prelude.{MatchOption, Result}
use Rattle.journal_scan.specs.declared.fault.ScanFault.{ScanFault}
use Rattle.log_layout.specs.declared.log_header.LogHeader.{LogHeader}

abbrev Search : Type 0
Search = Result LogHeader ScanFault

apart : (none : ScanFault) (head : LogHeader) → ◌≡◌ {A = Search} (Ok head) (Err none) → ⊥
apart none head e = cc

apart_too : (e : ScanFault) (head : LogHeader) → ◌≡◌ {A = Search} (Err e) (Ok head) → ⊥
apart_too f head e = cc

same : (head h : LogHeader) → ◌≡◌ {A = Search} (Ok head) (Ok h) → Some h ≡ Some head
same head h e = cc

-- it is the head
pub head_is : (o : Option LogHeader) (none : ScanFault) (head : LogHeader) → MatchOption o (◌≡◌ {A = Search} (Ok head) (Err none)) (λ h. ◌≡◌ {A = Search} (Ok head) (Ok h)) → o ≡ Some head
head_is None none head found = absurd (apart none head found)
head_is (Some h) none head found = same head h found

-- there is none
pub no_head : (o : Option LogHeader) (none e : ScanFault) → MatchOption o (◌≡◌ {A = Search} (Err e) (Err none)) (λ h. ◌≡◌ {A = Search} (Err e) (Ok h)) → o ≡ None
no_head None none e found = refl
no_head (Some h) none e found = absurd (apart_too e h found)
