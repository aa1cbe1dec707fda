-- The queue of waiting requests, as a list of records, those that wait first. 01 calls it the row of records; a record's place in the list
-- is its place in the row.
use Rattle.std.specs.Prelude.{ℕ, List, [], ◌∷◌, get_or}
use Rattle.queue.specs.declared.record.Request.{Request}

-- "a lent row of 32 records"
abbrev pub queue_size : ℕ
queue_size = 32

-- the record of zeros: what is read where the queue has no record
abbrev pub no_request : Request
no_request = record { client = 0; transaction = 0; p0 = 0; p1 = 0; p2 = 0; p3 = 0 }

-- "four parameters" of a record, in order
abbrev pub params_of : Request → List ℕ
params_of r = r.p0 ∷ r.p1 ∷ r.p2 ∷ r.p3 ∷ []

-- one record, by its place
abbrev pub record_at : List Request → ℕ → Request
record_at queue at = get_or queue at no_request
