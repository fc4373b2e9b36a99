use Rattle.nested_drafts.proofs.Over.{fates_put, kept_or_put, seen_alike, told_put}
use Rattle.nested_drafts.proofs.laws.puts_are_seen_alike.Goals as goal

pub returns : goal.returns
returns c = record { seen = seen_alike; fates = λ below above lock b. fates_put lock above below b; told = told_put; only = kept_or_put }
