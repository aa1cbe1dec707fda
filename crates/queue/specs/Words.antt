-- A queue as plain words, six a record: "each the client's word, the transaction and four parameters".
--     record_in     the record at a place
--     queue_in      the queue that words stand for: of 192 words 32 records, of any other number none
--     queue_of      the queue of words that are handed over with its length.    words_of      how many of the words are its own
--     stored_in     the words with a record stored at a place
--     stored_first  the words of a queue's first records, zeros behind them
--     stored_back   a queue with records of the words stored at some of its places
--     row_left      the words that a queue leaves.    row_left_of    the same of words that are handed over with its length
use Rattle.std.specs.Prelude.{ℕ, zero, suc, ◌+◌, ◌*◌, min, cond, ◌&&◌, List, [], eqb, leb, ltb, length, get_or, set, replicate}
use Rattle.lists.specs.Lists.{tabulate}
use Rattle.queue.specs.declared.record.Request.{Request}
use Rattle.queue.specs.Queue.{queue_size, no_request, record_at}

-- the words of a record, and of a whole queue
abbrev pub record_size : ℕ
record_size = 6

abbrev pub queue_words : ℕ
queue_words = record_size * queue_size

-- the record at a place
abbrev pub record_in : List ℕ → ℕ → Request
record_in ws at =
    record {
      client = get_or ws (at * record_size) 0;
      transaction = get_or ws (at * record_size + 1) 0;
      p0 = get_or ws (at * record_size + 2) 0;
      p1 = get_or ws (at * record_size + 3) 0;
      p2 = get_or ws (at * record_size + 4) 0;
      p3 = get_or ws (at * record_size + 5) 0;
    }

-- 32 records, one after the other
abbrev pub records_in : List ℕ → List Request
records_in ws = tabulate queue_size (record_in ws)

-- "a lent row of 32 records": other words than 192 are no row, which question 5 refuses as it refuses an empty one
unfoldable pub queue_in : List ℕ → List Request
queue_in ws = cond (eqb (length ws) queue_words) (records_in ws) []

-- the queue of a call that is handed its length beside the words
unfoldable pub queue_of : ℕ → List ℕ → List Request
queue_of size ws = cond (eqb size queue_size) (records_in ws) (replicate size no_request)

-- its words: 192 of 32 records, and none of any other length
abbrev pub words_of : ℕ → ℕ
words_of size = cond (eqb size queue_size) queue_words 0

-- the six words of a record from word i on
abbrev pub over_record : List ℕ → ℕ → Request → List ℕ
over_record ws i r =
    set (set (set (set (set (set ws i r.client) (i + 1) r.transaction) (i + 2) r.p0) (i + 3) r.p1) (i + 4) r.p2) (i + 5)
    r.p3

-- a record stored at a place of a row; past its end, or in what is no row, nothing changes
unfoldable pub stored_in : List ℕ → ℕ → Request → List ℕ
stored_in ws at r = cond (eqb (length ws) queue_words && ltb at queue_size) (over_record ws (at * record_size) r) ws

-- the words of the first n records of a queue, zeros behind them: of no record past the 32nd
unfoldable pub stored_first : ℕ → List Request → List ℕ
stored_first zero queue = replicate queue_words 0
stored_first (suc n) queue = stored_in (stored_first n queue) n (record_at queue n)

-- a queue with the records of the words at the places from `from` up to `end`: at no place past the 32nd
unfoldable pub stored_back : List Request → List ℕ → ℕ → ℕ → List Request
stored_back queue ws from end =
    tabulate (length queue) (λ i. cond (leb from i && ltb i (min end queue_size)) (record_in ws i) (record_at queue i))

-- the words of a row that is left as this queue: those of its 32 records; words that are no row stay as they are
unfoldable pub row_left : List ℕ → List Request → List ℕ
row_left ws queue = cond (eqb (length ws) queue_words) (stored_first queue_size queue) ws

-- the same of words that are handed over with the queue's length: of any other length than 32 they stay as they are
unfoldable pub row_left_of : ℕ → List ℕ → List Request → List ℕ
row_left_of size ws queue = cond (eqb size queue_size) (stored_first queue_size queue) ws
