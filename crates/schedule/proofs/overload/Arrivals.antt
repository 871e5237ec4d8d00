-- A task that is released as soon as its curve admits it: how many releases there were, and what became of their work on one processor.
use Rattle.std.proofs.Common.{◌≡◌, ℕ, suc, ◌+◌, ◌-◌, ◌*◌, ◌<◌, ◌≤◌, min, Bool, List, [], ◌∷◌, sym, refl, ap, subst, suc-mul, arith}
use Rattle.schedule.specs.declared.Part.{Part}
use Rattle.schedule.specs.Lists.{◌∈◌}
use Rattle.schedule.specs.Curves.{Curve, Subadditive}
use Rattle.schedule.specs.Layout.{Segment, segments, span_of, System, LaidOut}
use Rattle.schedule.specs.TickRule.{Job, closed, open_at, hand_over, aged, opened}
use Rattle.schedule.proofs.facts.Curves.{curve_mono}
use Rattle.schedule.proofs.facts.Segments.{segment_within}
use Rattle.schedule.proofs.facts.Jobs.{aged_either, Shape, linked, shape_aged, shape_opened, owed_hand_over, on_proc, on_part}
use Rattle.schedule.proofs.overload.Left.{left_on}

-- An open job of age a was released when m - a ticks had passed, and was one of the N releases.
abbrev pub Birth : (ℕ → ℕ) → ℕ → ℕ → Job → Type 0
Birth f m N closed = Unit {0}
Birth f m N (open_at a l now later) = (y : ℕ) × (y + a ≡ m) × (f y + 1 ≤ N)

birth_hand_over : (f : ℕ → ℕ) (m N a : ℕ) (gs : List Segment) → (y : ℕ) × (y + a ≡ m) × (f y + 1 ≤ N) → Birth f m N (hand_over a gs)
birth_hand_over f m N a [] b = tt
birth_hand_over f m N a (g ∷ gs) b = b

birth_aged : (f : ℕ → ℕ) (m N : ℕ) (r : Bool) (j : Job) → Birth f m N j → Birth f (m + 1) N (aged r j)
birth_aged f m N r closed b = tt
birth_aged f m N r (open_at a l now later) b =
    let b' : (y : ℕ) × (y + (a + 1) ≡ m + 1) × (f y + 1 ≤ N) = (b.0, omega (arith, b.1), b.2) in
    aged_either r a l now later (Birth f (m + 1) N) (λ w. birth_hand_over f (m + 1) N (a + 1) later b') (λ n e. b')

-- m ticks after its first release a task has had N releases; processor p of part x has run c ticks of it, and the job has the rest.
pub record Fine (sys : System) (x : Part) (m N c : ℕ) (j : Job) : Type 0 where
  pub work : N * x.cost ≤ c + left_on x.processor j
  pub shape : Shape (segments sys.parts x.task) j
  pub birth : Birth (sys.curve x.task) m N j

-- Before the release of this time, and after it.
pub record Due (sys : System) (x : Part) (m c : ℕ) (rm : ℕ → ℕ) (j : Job) : Type 0 where
  pub room : (L : ℕ) → rm L + sys.curve x.task m ≡ sys.curve x.task (m + L)
  pub fine : Fine sys x m (sys.curve x.task m) c j

pub record Made (sys : System) (x : Part) (m c : ℕ) (rm : ℕ → ℕ) (j : Job) : Type 0 where
  pub room : (L : ℕ) → 1 ≤ L → rm L + sys.curve x.task (m + 1) ≡ sys.curve x.task (m + L)
  pub fine : Fine sys x m (sys.curve x.task (m + 1)) c j

module _ (sys : System) (lo : LaidOut sys) (x : Part) (mx : x ∈ sys.parts) (sub : Subadditive (sys.curve x.task)) where
  known : x.task < sys.tasks
  known = (lo.known x mx).0

  laws : Curve (sys.curve x.task)
  laws = lo.curves x.task known

  -- The first: nothing has been released.
  pub due_first : (rm : ℕ → ℕ) (j : Job) → ((L : ℕ) → rm L ≡ sys.curve x.task L) → j ≡ closed → Due sys x 0 0 rm j
  due_first rm j h e =
      let none : sys.curve x.task 0 ≡ 0 = laws.none in
      let z : sys.curve x.task 0 * x.cost ≡ 0 * x.cost = ap (λ n. n * x.cost) none in
      subst (Due sys x 0 0 rm) (sym e) (record {
        room = λ L. omega (arith, h L, (let e : 0 + L ≡ L = omega arith in ap (sys.curve x.task) e));
        fine = record { work = omega arith; shape = tt; birth = tt };
      })

  pub due_more : (m c d : ℕ) (rm : ℕ → ℕ) (j : Job) → c ≤ d → Due sys x m c rm j → Due sys x m d rm j
  due_more m c d rm j h du = record {
    room = du.room;
    fine = record {
      work = omega (arith, du.fine.work);
      shape = du.fine.shape;
      birth = du.fine.birth;
    };
  }

  -- A tick after the release.
  pub made_ticked : (m c d : ℕ) (r : Bool) (rm : ℕ → ℕ) (j : Job) → Made sys x m c rm j →
      left_on x.processor j + c ≤ left_on x.processor (aged r j) + d →
      Due sys x (m + 1) d (λ L. min (rm (L + 1)) (sys.curve x.task L)) (aged r j)
  made_ticked m c d r rm j ma h = record {
    room = λ L. omega (arith, ma.room (L + 1) (omega arith), sub (m + 1) L, (let e : m + (L + 1) ≡ (m + 1) + L = omega arith in ap (sys.curve x.task) e));
    fine = record {
      work = omega (arith, ma.fine.work);
      shape = shape_aged (segments sys.parts x.task) (linked sys lo x.task) r j ma.fine.shape;
      birth = birth_aged (sys.curve x.task) m (sys.curve x.task (m + 1)) r j ma.fine.birth;
    };
  }

  -- A tick before the first release.
  pub due_ticked : (c : ℕ) (r : Bool) (rm : ℕ → ℕ) (j : Job) → Due sys x 0 c rm j → Due sys x 0 c (λ L. min (rm (L + 1)) (sys.curve x.task L)) (aged r j)
  due_ticked c r rm closed du = record {
    room = λ L. omega (arith, du.room (L + 1), laws.none, laws.steps L, (let e : 0 + L ≡ L = omega arith in ap (sys.curve x.task) e), (let e : 0 + (L + 1) ≡ L + 1 = omega arith in ap (sys.curve x.task) e));
    fine = du.fine;
  }
  due_ticked c r rm (open_at a l now later) du = absurd (omega (arith, du.fine.birth.2, laws.none))

  -- A release that is refused.
  pub due_refused : (m c : ℕ) (rm : ℕ → ℕ) (j : Job) → Due sys x m c rm j → rm 1 ≡ 0 → Made sys x m c rm j
  due_refused m c rm j du z =
      let e : sys.curve x.task m ≡ sys.curve x.task (m + 1) = omega (arith, du.room 1) in
      record { room = λ L h. omega (arith, du.room L); fine = subst (λ n. Fine sys x m n c j) e du.fine }

  -- A release that is taken finds the task closed.
  due_closed : (m c : ℕ) (rm : ℕ → ℕ) (j : Job) → Due sys x m c rm j → (rm 1 ≡ 0 → ⊥) → j ≡ closed
  due_closed m c rm closed du nz = refl
  due_closed m c rm (open_at a l now later) du nz =
      let b = du.fine.birth in
      let st = du.fine.shape in
      let lone = lo.exclusive x.task known in
      let in_span = segment_within sys lo x.task now (st.done, later, st.place) in
      let grows = curve_mono (sys.curve x.task) laws.steps (a + 1) (span_of sys.parts x.task) (omega (arith, st.early)) in
      let e : b.0 + (a + 1) ≡ m + 1 = omega (arith, b.1) in
      absurd (omega (arith, du.room 1, sub b.0 (a + 1), ap (sys.curve x.task) e, b.2))

  pub due_taken : (m c : ℕ) (rm : ℕ → ℕ) (j : Job) → Due sys x m c rm j → (rm 1 ≡ 0 → ⊥) → Made sys x m c (λ L. rm L - 1) (opened sys x.task)
  due_taken m c rm j du nz =
      let cl = due_closed m c rm j du nz in
      let one : sys.curve x.task (m + 1) ≡ suc (sys.curve x.task m) = omega (arith, du.room 1, laws.steps m) in
      let w : sys.curve x.task m * x.cost ≤ c = omega (arith, du.fine.work, ap (left_on x.processor) cl) in
      record {
        room = λ L h. omega (arith, du.room L, curve_mono (sys.curve x.task) laws.steps (m + 1) (m + L) (omega arith));
        fine = record {
          work = omega (
            arith,
            ap (λ n. n * x.cost) one,
            suc-mul (sys.curve x.task m) x.cost,
            owed_hand_over (on_proc x.processor) 0 (segments sys.parts x.task),
            on_part sys lo x mx,
          );
          shape = shape_opened (segments sys.parts x.task) (linked sys lo x.task);
          birth = birth_hand_over (sys.curve x.task) m (sys.curve x.task (m + 1)) 0 (segments sys.parts x.task) (m, omega arith, omega arith);
        };
      }
