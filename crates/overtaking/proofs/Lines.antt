-- A line on a mutex for which threads wait, whose count is not 0 and which has no token: it serves the first of the queue, or nobody comes to own the mutex
-- and those that wait still lead its queue. No token is there then, and the processor does not come to H5.
-- Assumes nothing.
use Prim.Native.Nat.{ℕ, zero, suc, ◌-◌}
use mathlib.Core.Bool.{Bool, true, false, true≢false}
use mathlib.Core.List.{List, [], ◌∷◌, ◌++◌, append-nil}
use mathlib.Core.Logic.{◌⊎◌, inl, inr}
use mathlib.Core.Path.{◌≡◌, refl, ap, sym, subst}
use native.Mathlib.Omega.{arith}
use Rattle.reference.specs.Lists.{choose, if_zero}
use Rattle.reference.specs.State.{Token, Processor, Line, App, CI2, CI3, L1, L3, L4, L6, L7, L8, L9, L10, TL1, GT1, GT3, TL3, U1, H2, H3, H5, H6, H8, Y1, Y2, Y3, C2, same_line, same_token}
use Rattle.reference.specs.Step.{View, line}
use Rattle.reference.proofs.Sums.{some}
use Rattle.reference.proofs.Local.{Fit, token-processor}

-- the first, x, is served, and the others, xs, stay; or all stay, with ys behind them, and the owner k does or nobody owns the mutex
pub data Serves (x : ℕ) (xs : List ℕ) (k : ℕ) (v : View) : Type 0 where
  served : k ≡ 0 → v.mutex.owner ≡ x → v.mutex.queue ≡ xs → v.mutex.token.processor ≡ 0 → same_line v.proc.position H5 ≡ false → Serves x xs k v
  stays : (v.mutex.owner ≡ k) ⊎ (v.mutex.owner ≡ 0) → (ys : List ℕ) → v.mutex.queue ≡ x ∷ xs ++ ys → v.mutex.token.processor ≡ 0 →
      same_line v.proc.position H5 ≡ false → Serves x xs k v

pub some-none : (n : ℕ) → some n ≡ 0 → n ≡ 0
some-none zero h = refl
some-none (suc n) h = absurd (omega arith)

module _ {x k : ℕ} {xs : List ℕ} where
  chosen : (b : Bool) {v u : View} → Serves x xs k v → Serves x xs k u → Serves x xs k (choose b v u)
  chosen true h i = h
  chosen false h i = i

  zeroed : (n : ℕ) {v u : View} → Serves x xs k v → Serves x xs k u → Serves x xs k (if_zero n v u)
  zeroed zero h i = h
  zeroed (suc n) h i = i

module _ (P T M N : ℕ) (f : ℕ → ℕ) (p : ℕ) (r : Processor) (k : ℕ) (x : ℕ) (xs : List ℕ) (t : Token) (e : t.processor ≡ 0) (n : ℕ) where
  abbrev seen : ℕ → List ℕ → View
  seen c z = record { self = p; proc = r; mutex = record { count = suc c; queue = x ∷ xs; owner = k; token = t }; ready = z; queues = n }

  -- nothing of the mutex changes but its count
  same : x ∷ xs ≡ x ∷ xs ++ []
  same = sym (append-nil (x ∷ xs))

  taken : (c : ℕ) (z : List ℕ) → Fit P T M N f GT3 (seen c z) → (b : Bool) → same_token t r.observed ≡ b → Serves x xs k (line GT3 (seen c z))
  unfolding line
  taken c z h true y = absurd (omega (arith, token-processor t r.observed y))
  taken c z h false y = rw y (stays (inl refl) [] same e refl)

  -- who serves the queue is responsible for handing the mutex on, so nobody owns it
  serves : (l : Line) (c : ℕ) (z : List ℕ) → Fit P T M N f l (seen c z) → same_line l H5 ≡ false → Serves x xs k (line l (seen c z))
  unfolding line
  serves App c z h o = stays (inl refl) [] same e (ap (λ (l : Line). same_line l H5) h.here)
  serves CI2 c [] h o = stays (inl refl) [] same e refl
  serves CI2 c (y ∷ z) h o = stays (inl refl) [] same e refl
  serves CI3 c z h o = stays (inl refl) [] same e refl
  serves L1 c z h o = stays (inl refl) [] same e refl
  serves L3 c z h o = stays (inl refl) [] same e refl
  serves L4 c z h o = stays (inl refl) (r.transit ∷ []) refl e refl
  serves L6 c z h o = zeroed t.processor (stays (inl refl) [] same e refl) (stays (inl refl) [] same e refl)
  serves L7 c z h o = stays (inl refl) [] same e refl
  serves L8 c z h o = chosen (same_token t r.observed) (stays (inl refl) [] same refl refl) (stays (inl refl) [] same e refl)
  serves L9 c z h o = served (some-none k (omega (arith, h.handed))) refl refl e refl
  serves L10 c z h o = stays (inl refl) [] same e refl
  serves TL1 c z h o = stays (inl refl) [] same e refl
  serves GT1 c z h o = zeroed t.processor (stays (inl refl) [] same e refl) (stays (inl refl) [] same e refl)
  serves GT3 c z h o = taken c z h (same_token t r.observed) refl
  serves TL3 c z h o = stays (inl refl) [] same e refl
  serves U1 c z h o = zeroed (suc c - 1) (stays (inr refl) [] same e refl) (stays (inr refl) [] same e refl)
  serves H2 c z h o = served (some-none k (omega (arith, h.handed))) refl refl e refl
  serves H3 c z h o = stays (inl refl) [] same e refl
  serves H5 c z h o = absurd (true≢false o)
  serves H6 c z h o = stays (inl refl) [] same e refl
  serves H8 c z h o = chosen (same_token t (record { processor = p; sequence = r.sequence })) (stays (inl refl) [] same refl refl) (stays (inl refl) [] same e refl)
  serves Y1 c [] h o = stays (inl refl) [] same e refl
  serves Y1 c (y ∷ z) h o = stays (inl refl) [] same e refl
  serves Y2 c z h o = stays (inl refl) [] same e refl
  serves Y3 c z h o = stays (inl refl) [] same e refl
  serves C2 c z h o = stays (inl refl) [] same e refl

-- of any such view
pub serves_at : (P T M N : ℕ) (f : ℕ → ℕ) (l : Line) (v : View) → Fit P T M N f l v → same_line l H5 ≡ false →
    (c x : ℕ) (xs : List ℕ) → v.mutex.count ≡ suc c → v.mutex.queue ≡ x ∷ xs → v.mutex.token.processor ≡ 0 → Serves x xs v.mutex.owner (line l v)
serves_at P T M N f l v h o c x xs a b e =
    subst (λ (u : View). Fit P T M N f l u → Serves x xs v.mutex.owner (line l u)) (sym same_view)
    (λ h. serves P T M N f v.self v.proc v.mutex.owner x xs v.mutex.token e v.queues l c v.ready h o) h
  where
    same_view : v ≡
        record {
          self = v.self;
          proc = v.proc;
          mutex = record { count = suc c; queue = x ∷ xs; owner = v.mutex.owner; token = v.mutex.token };
          ready = v.ready;
          queues = v.queues;
        }
    same_view = λ i.
        record {
          self = v.self;
          proc = v.proc;
          mutex = record { count = a i; queue = b i; owner = v.mutex.owner; token = v.mutex.token };
          ready = v.ready;
          queues = v.queues;
        }
