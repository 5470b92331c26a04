-- "Picture", on records: what writing leaves in a lent buffer, and what reading makes of bytes. Bytes are counted from 0.
-- Assumes nothing.
use Rattle.std.specs.Prelude.{ℕ, ◌+◌, ◌-◌, ◌*◌, ◌<◌, Bool, ◌&&◌, not, List, ◌++◌, eqb, leb, ltb, length, get_or, drop, Result, Ok, Err}
use Rattle.state.specs.declared.refusal.Refusal.{Refusal}
use Rattle.state.specs.Refusal.{number}
use Rattle.state.specs.declared.Thread.{Thread}
use Rattle.state.specs.declared.Processor.{Processor}
use Rattle.state.specs.declared.Mutex.{Mutex}
use Rattle.state.specs.declared.State.{State}
use Rattle.state.specs.Record.{zero_thread, zero_processor, zero_mutex, zero_state}
use Rattle.state.specs.Association.{decode}
use Rattle.state.specs.Rules.{sizes_ok, broken_rule, state_ok}
use Rattle.reference.specs.Refusal.{too_short, bad_length, bad_field, bad_record, refuse}
use Rattle.reference.specs.Lists.{choose, if_zero, in_range, tabulate, each}
use Rattle.reference.specs.Picture.{picture, mutexes_at, threads_at, picture_bytes}

-- how long its picture is
abbrev pub picture_length : State → ℕ
picture_length r = picture_bytes r.p r.t r.m

-- ---- writing: 15, then 10

-- `n`: the length of the buffer
abbrev pub write_refusal : State → ℕ → ℕ
write_refusal r n = refuse (not (state_ok r)) bad_record (refuse (ltb n (picture_length r)) too_short 0)

-- the picture of the state that the record shows, followed by the buffer's later bytes; refused, the buffer as it was
unfoldable pub written : State → List ℕ → List ℕ
written r buffer = if_zero (write_refusal r (length buffer)) (picture (decode r) ++ drop (picture_length r) buffer) buffer

-- ---- the record whose fields are the bytes `b`

-- byte i, 0 where there is none
abbrev pub byte : List ℕ → ℕ → ℕ
byte b i = get_or b i 0

-- each is a byte
abbrev pub Bytes : List ℕ → Type 0
Bytes b = (i : ℕ) → byte b i < 256

-- a two-byte field, high byte first
abbrev pub two_at : List ℕ → ℕ → ℕ
two_at b i = 256 * byte b i + byte b (i + 1)

-- the processor, mutex or thread whose record begins the bytes; of a processor byte 11 is the first of its own ready chain
abbrev pub processor_field : List ℕ → Processor
processor_field b =
    record {
      position = byte b 0;
      current = byte b 1;
      transit = byte b 2;
      mutex = byte b 3;
      observed = record { processor = byte b 4; sequence = two_at b 6 };
      sequence = two_at b 8;
      answer = byte b 10;
      probe = byte b 5;
    }

-- byte 1 is the first of its chain
abbrev pub mutex_field : List ℕ → Mutex
mutex_field b = record { count = byte b 0; owner = byte b 2; token = record { processor = byte b 3; sequence = two_at b 4 } }

abbrev pub thread_field : List ℕ → Thread
thread_field b = record { status = byte b 0; holder = byte b 1; next = byte b 2 }

-- from the i-th on of records of `width` bytes
abbrev pub from_record : ℕ → List ℕ → ℕ → List ℕ
from_record width b i = drop (width * (i - 1)) b

-- from the processor, the mutex and the thread records on
abbrev pub processors_part : List ℕ → List ℕ
processors_part b = drop 8 b

abbrev pub mutexes_part : List ℕ → List ℕ
mutexes_part b = drop (mutexes_at (byte b 0)) b

abbrev pub threads_part : List ℕ → List ℕ
threads_part b = drop (threads_at (byte b 0) (byte b 2)) b

-- the i-th of n, or none
abbrev pub one_of : {A : Type 0} → ℕ → ℕ → A → A → A
one_of n i x none = choose (in_range 1 n i) x none

abbrev pub processor_read : List ℕ → ℕ → ℕ → Processor
processor_read part p i = one_of p i (processor_field (from_record 12 part i)) zero_processor

abbrev pub mutex_read : List ℕ → ℕ → ℕ → Mutex
mutex_read part m i = one_of m i (mutex_field (from_record 8 part i)) zero_mutex

abbrev pub thread_read : List ℕ → ℕ → ℕ → Thread
thread_read part t k = one_of t k (thread_field (from_record 4 part k)) zero_thread

-- the first of queue q: of the single ready queue in the header, of a mutex's in its record, of a processor's in its record
abbrev pub first_read : ℕ → List ℕ → ℕ → List ℕ → ℕ → ℕ → ℕ
first_read ready processors p mutexes m q =
    choose (eqb q 0) ready
    (choose (leb q 8) (one_of m q (byte (from_record 8 mutexes q) 1) 0) (one_of p (q - 8) (byte (from_record 12 processors (q - 8)) 11) 0))

unfoldable pub fields : List ℕ → State
fields b =
    record {
      p = byte b 0;
      t = byte b 1;
      m = byte b 2;
      stealing = byte b 7;
      applied = two_at b 4;
      chains =
          record {
            firsts = tabulate (first_read (byte b 3) (processors_part b) (byte b 0) (mutexes_part b) (byte b 2)) 0 17;
            threads = tabulate (thread_read (threads_part b) (byte b 1)) 0 33;
          };
      processors = tabulate (processor_read (processors_part b) (byte b 0)) 0 9;
      mutexes = tabulate (mutex_read (mutexes_part b) (byte b 2)) 0 9;
    }

-- ---- unnamed bytes are zero

abbrev pub zero_at : List ℕ → ℕ → Bool
zero_at b i = eqb (byte b i) 0

abbrev pub mutex_zeros : List ℕ → Bool
mutex_zeros b = zero_at b 6 && zero_at b 7

abbrev pub thread_zeros : List ℕ → Bool
thread_zeros b = zero_at b 3

unfoldable pub zero_bytes_ok : List ℕ → Bool
zero_bytes_ok b =
    zero_at b 6 && each (λ i. mutex_zeros (from_record 8 (mutexes_part b) i)) 1 (byte b 2) &&
    each (λ i. thread_zeros (from_record 4 (threads_part b) i)) 1 (byte b 1)

-- ---- reading: under 8 bytes 11, sizes 12, full length 11, then 12, 13, 14

unfoldable pub read_refusal : List ℕ → ℕ
read_refusal b =
    refuse (ltb (length b) 8) bad_length
    (refuse (not (sizes_ok (fields b))) bad_field
    (refuse (not (eqb (length b) (picture_length (fields b)))) bad_length
    (refuse (not (zero_bytes_ok b)) bad_field (broken_rule (fields b)))))

-- 0 and the record of the bytes, or the number and an all-zero state
pub record Read : Type 0 where
  pub refusal : ℕ
  pub state : State

unfoldable pub read : List ℕ → Read
read b = record { refusal = read_refusal b; state = if_zero (read_refusal b) (fields b) zero_state }

-- the same of the code's answer
unfoldable pub read_shown : Result State Refusal → Read
read_shown (Ok state) = record { refusal = 0; state = state }
read_shown (Err refusal) = record { refusal = number refusal; state = zero_state }
