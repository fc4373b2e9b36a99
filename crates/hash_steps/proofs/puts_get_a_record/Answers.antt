use Rattle.hash_steps.proofs.Put.{gets_record}
use Rattle.hash_steps.proofs.puts_get_a_record.Goals as goal

pub returns : goal.returns
returns c h g name e sound hashed some short number address fresh put = gets_record h g name e sound hashed some short number address fresh put c.areas_exchange_records.ensures.put
