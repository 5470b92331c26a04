-- Document 01's sessions K4 to K9 and S, with every state that it names on the way, and the picture that it prints; a picture with a ready queue
-- for each processor: computed from the definitions.
-- Assumes nothing.
use Prim.Native.Nat.{ℕ}
use mathlib.Core.Bool.{true}
use mathlib.Core.List.{List, [], ◌∷◌, ◌++◌}
use mathlib.Core.Path.{◌≡◌, refl}
use Rattle.reference.specs.Lists.{tabulate, those, find, sum, is}
use Rattle.reference.specs.State.{Token, Processor, Mutex, Line, App, CI2, L3, L6, L8, H6, H8, processor_at, mutex_at}
use Rattle.reference.specs.Start.{Config, start, config_cause}
use Rattle.reference.specs.Step.{Move, move_of, run, next, act, action_of, line}
use Rattle.reference.specs.Cause.{cause, accepted}
use Rattle.reference.specs.Slips.{locks, unlocks, exits, goes}
use Rattle.reference.specs.Picture.{picture, thread_entry, behind, concat}

-- ---- how a session is written down

abbrev config : ℕ → ℕ → ℕ → ℕ → Config
config p t m b = record { P = p; T = t; M = m; B = b; stealing = 0 }

abbrev trylocks : ℕ → Move
trylocks p = move_of p 2 1

abbrev token : ℕ → ℕ → Token
token p n = record { processor = p; sequence = n }

abbrev none : Token
none = token 0 0

-- a processor at a line, with its current and transit thread, its mutex, observed token and own sequence number
abbrev stands : Line → ℕ → ℕ → ℕ → Token → ℕ → Processor
stands l c t m o n = record { position = l; current = c; transit = t; mutex = m; observed = o; sequence = n; answer = 0; probe = 0 }

abbrev mutex : ℕ → List ℕ → ℕ → Token → Mutex
mutex c q o t = record { count = c; queue = q; owner = o; token = t }

-- the moves are all accepted, and then mutex 1 and the single ready queue are these
abbrev Then : Config → List Move → Mutex → List ℕ → Type 0
Then c ms x q =
    (config_cause c ≡ 0) × (accepted (start c) ms ≡ true) × (mutex_at (run (start c) ms) 1 ≡ x) × ((run (start c) ms).ready ≡ q ∷ [])

abbrev Stands : Config → List Move → ℕ → Processor → Type 0
Stands c ms p r = processor_at (run (start c) ms) p ≡ r

-- ---- K4: a thread locks the mutex that it owns, and waits for itself

abbrev one : Config
one = config 1 1 1 1

abbrev k4 : ℕ → List Move
k4 n = locks 1 ∷ goes 1 1 ++ locks 1 ∷ goes 1 n

k4-owner : Then one (locks 1 ∷ goes 1 1) (mutex 1 [] 1 none) []
unfolding config_cause start tabulate those run next act action_of line cause accepted
k4-owner = (refl, refl, refl, refl)

k4_at_l3 : Stands one (k4 1) 1 (stands L3 1 0 1 none 0)
unfolding start tabulate those run next act action_of line
k4_at_l3 = refl

k4-end : Then one (k4 5) (mutex 2 (1 ∷ []) 1 none) []
unfolding config_cause start tabulate those run next act action_of line cause accepted
k4-end = (refl, refl, refl, refl)

k4_at_ci2 : Stands one (k4 5) 1 (stands CI2 0 0 0 none 0)
unfolding start tabulate those run next act action_of line
k4_at_ci2 = refl

-- ---- session S: an owner unlocks while the second caller is counted and not queued yet, so it offers a token

abbrev two : Config
two = config 2 2 1 2

abbrev s-locked : List Move
s-locked = locks 1 ∷ locks 2 ∷ goes 1 1 ++ goes 2 1

abbrev s : List Move
s = s-locked ++ unlocks 1 ∷ goes 1 3

s-owner : Then two (locks 1 ∷ locks 2 ∷ goes 1 1) (mutex 1 [] 1 none) []
unfolding config_cause start tabulate those run next act action_of line cause accepted
s-owner = (refl, refl, refl, refl)

s_at_l3 : Stands two s-locked 2 (stands L3 2 0 1 none 0)
unfolding start tabulate those run next act action_of line
s_at_l3 = refl

s_token : Then two s (mutex 1 [] 0 (token 1 1)) []
unfolding config_cause start tabulate those run next act action_of line cause accepted
s_token = (refl, refl, refl, refl)

s_at_h6 : Stands two s 1 (stands H6 1 0 1 none 1)
unfolding start tabulate those run next act action_of line
s_at_h6 = refl

-- ---- K5: the second caller takes the token and serves itself

k5-left : Stands two (s ++ goes 1 1) 1 (stands App 1 0 0 none 1)
unfolding start tabulate those run next act action_of line
k5-left = refl

k5-end : Then two (s ++ goes 1 1 ++ goes 2 7) (mutex 1 [] 2 none) []
unfolding config_cause start tabulate those run next act action_of line cause accepted
k5-end = (refl, refl, refl, refl)

k5-current : Stands two (s ++ goes 1 1 ++ goes 2 7) 2 (stands App 2 0 0 none 0)
unfolding start tabulate those run next act action_of line
k5-current = refl

-- ---- K6: the unlocker finds the second caller queued, takes its token back and makes it ready

k6-ready : Then two (s ++ goes 2 2 ++ goes 1 4) (mutex 1 [] 2 none) (2 ∷ [])
unfolding config_cause start tabulate those run next act action_of line cause accepted
k6-ready = (refl, refl, refl, refl)

k6_at_l6 : Stands two (s ++ goes 2 2 ++ goes 1 4) 2 (stands L6 0 0 1 none 0)
unfolding start tabulate those run next act action_of line
k6_at_l6 = refl

k6-end : (accepted (start two) (s ++ goes 2 2 ++ goes 1 4 ++ goes 2 1) ≡ true) × Stands two (s ++ goes 2 2 ++ goes 1 4 ++ goes 2 1) 2 (stands CI2 0 0 0 none 0)
unfolding config_cause start tabulate those run next act action_of line cause accepted
k6-end = (refl, refl)

-- ---- K7: a trylock takes the token before either

abbrev three : Config
three = config 3 3 1 3

abbrev k7-tried : List Move
k7-tried = s ++ goes 2 2 ++ goes 1 1 ++ trylocks 3 ∷ goes 3 3

k7_at_h8 : Stands three (s ++ goes 2 2 ++ goes 1 1) 1 (stands H8 1 0 1 none 1)
unfolding start tabulate those run next act action_of line
k7_at_h8 = refl

k7_owner : Then three k7-tried (mutex 1 (2 ∷ []) 3 none) []
unfolding config_cause start tabulate those run next act action_of line cause accepted
k7_owner = (refl, refl, refl, refl)

k7_h8_fails : Stands three (k7-tried ++ goes 1 1) 1 (stands App 1 0 0 none 1)
unfolding start tabulate those run next act action_of line
k7_h8_fails = refl

k7-end : Then three (k7-tried ++ goes 1 1 ++ goes 3 1) (mutex 2 (2 ∷ []) 3 none) []
unfolding config_cause start tabulate those run next act action_of line cause accepted
k7-end = (refl, refl, refl, refl)

k7-answer : (processor_at (run (start three) (k7-tried ++ goes 1 1 ++ goes 3 1)) 3).answer ≡ 1
unfolding start tabulate those run next act action_of line
k7-answer = refl

-- ---- K8: a token with another sequence number is not the one observed

k8 : (line L8 (record { self = 2; proc = stands L8 0 0 1 (token 1 1) 0; mutex = mutex 1 (2 ∷ []) 0 (token 1 2); ready = []; queues = 1 })).proc ≡ stands CI2 0 0 0 none 0
unfolding line
k8 = refl

-- ---- K9: an unlock of another's mutex

k9 : cause (run (start two) (locks 1 ∷ goes 1 1)) (unlocks 2) ≡ 6
unfolding start tabulate those run next act action_of line cause
k9 = refl

-- ---- the picture that document 01 prints: start 1 1 1 1, show

printed : picture (start one) ≡
    1 ∷ 1 ∷ 1 ∷ 0 ∷ 0 ∷ 0 ∷ 0 ∷ 0 ∷ 0 ∷ 1 ∷ 0 ∷ 0 ∷ 0 ∷ 0 ∷ 0 ∷ 0 ∷ 0 ∷ 0 ∷ 0 ∷ 0 ∷ 0 ∷ 0 ∷ 0 ∷ 0 ∷ 0 ∷ 0 ∷ 0 ∷ 0 ∷ 3 ∷ 1 ∷ 0 ∷ 0 ∷ []
unfolding start tabulate those picture concat thread_entry find sum
printed = refl

-- ---- a ready queue for each processor: start 2 3 1 3 1, processor 2 exits and goes. Byte 7 shows the choice; thread 3 is the first of queue 1, in the last byte
-- of processor 1's record, and names that processor; processor 2 is at CI2 with probe 1

stealing-printed : picture (run (start (record { P = 2; T = 3; M = 1; B = 3; stealing = 1 })) (exits 2 ∷ goes 2 1)) ≡
    2 ∷ 3 ∷ 1 ∷ 0 ∷ 0 ∷ 2 ∷ 0 ∷ 1 ∷ 0 ∷ 1 ∷ 0 ∷ 0 ∷ 0 ∷ 0 ∷ 0 ∷ 0 ∷ 0 ∷ 0 ∷ 0 ∷ 3 ∷ 1 ∷ 0 ∷ 0 ∷ 0 ∷ 0 ∷ 1 ∷ 0 ∷ 0 ∷ 0 ∷ 0 ∷ 0 ∷ 0 ∷ 0 ∷ 0 ∷ 0 ∷ 0 ∷ 0 ∷ 0 ∷ 0 ∷ 0 ∷ 3 ∷ 1 ∷ 0 ∷ 0 ∷ 5 ∷ 0 ∷ 0 ∷ 0 ∷ 1 ∷ 1 ∷ 0 ∷ 0 ∷ []
unfolding start tabulate those run next act action_of line picture concat thread_entry behind find sum is
stealing-printed = refl
