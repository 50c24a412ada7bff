-- What a worker did, put together.
use Rattle.std.proofs.Common.{◌≡◌, ℕ, ◌+◌, Bool, true, false, ◌⊎◌, inl, inr, List, [], ◌∷◌, ◌++◌, Option, Some, None, sym, refl, ap, ◌∙◌, subst, arith}
use Rattle.std.specs.Option.{option_to_list}
use Rattle.steal_pool.specs.declared.worker.Worker.{Worker}
use Rattle.steal_pool.specs.declared.tally.Tally.{Tally}
use Rattle.steal_pool.specs.Balance.{weigh, WasEmpty}
use Rattle.steal_pool.specs.Deques.{TookFirst}
use Rattle.steal_pool.specs.Thieves.{frame, put_weight, taken_weight, Transfers}
use Rattle.steal_pool.specs.Turns.{Turn, Chain, StopsAtHalt, EndsAtHalt, Halts}
use Rattle.steal_pool.specs.Workers.{held_weight, Moved, Worked}
use Rattle.steal_pool.proofs.Rule.{weigh-append}

pub chain_append : {J W : Type 0} (turned : W → J → List J → Bool → W → Type 0) (w v u : W) (ts us : List (Turn J)) → Chain turned w ts v
    → Chain turned v us u → Chain turned w (ts ++ us) u
chain_append turned w v u [] us c d = subst (λ z. Chain turned z us u) (sym c) d
chain_append turned w v u (t ∷ ts) us c d = (c.0, c.1, chain_append turned c.0 v u ts us c.2 d)

pub halts_left : {J : Type 0} (ts us : List (Turn J)) → Halts ts → Halts (ts ++ us)
halts_left [] us h = absurd h
halts_left (t ∷ ts) us (inl e) = inl e
halts_left (t ∷ ts) us (inr h) = inr (halts_left ts us h)

pub halts_right : {J : Type 0} (ts us : List (Turn J)) → Halts us → Halts (ts ++ us)
halts_right [] us h = h
halts_right (t ∷ ts) us h = inr (halts_right ts us h)

pub stops_append : {J : Type 0} (a b c : Bool) (ts us : List (Turn J)) → StopsAtHalt a ts b → StopsAtHalt b us c → StopsAtHalt a (ts ++ us) c
stops_append a b c [] us p q = subst (λ x. StopsAtHalt x us c) p q
stops_append a b c (t ∷ ts) us p q = (p.0, stops_append t.halt b c ts us p.1 q)

-- who has said halt in the end had said so before, or said so in a turn
pub halts_of : {J : Type 0} (a b : Bool) (ts : List (Turn J)) → StopsAtHalt a ts b → b ≡ true → (a ≡ true) ⊎ Halts ts
halts_of a b [] p e = inl (sym p ∙ e)
halts_of a b (t ∷ ts) p e = elim (halts_of t.halt b ts p.1 e) [ inl f ↦ inr (inl f) | inr h ↦ inr (inr h) ]

nothing_after : {J : Type 0} (a b : Bool) (ts : List (Turn J)) → StopsAtHalt a ts b → a ≡ true → ts ≡ []
nothing_after a b [] p e = refl
nothing_after a b (t ∷ ts) p e = absurd (both a e p.0)
  where
    both : (x : Bool) → x ≡ true → x ≡ false → ⊥
    both x e f = cc

pub ends_of : {J : Type 0} (a b : Bool) (ts : List (Turn J)) → StopsAtHalt a ts b → EndsAtHalt ts
ends_of a b [] p = tt
ends_of a b (t ∷ ts) p = (λ h. nothing_after t.halt b ts p.1 h, ends_of t.halt b ts p.1)

pub was_empty : {J : Type 0} (v w : Tally J) (found_empty found_empty' : ℕ) (result : Option J) → result ≡ None
    → TookFirst v found_empty w found_empty' result → WasEmpty w
was_empty v w f f' None e took = subst WasEmpty (sym took.0) took.2
was_empty v w f f' (Some x) e took = cc

module _ {J W : Type 0} where
  pub still : (m : Worker J W) (xs : List J) → Moved m xs m xs
  still m xs = record { frames = refl; number = refl; own = refl; halted = refl; balance = λ h. refl }

  pub moved_then : (a b c : Worker J W) (x y z : List J) → Moved a x b y → Moved b y c z → Moved a x c z
  moved_then a b c x y z p q = record {
    frames = q.frames ∙ p.frames;
    number = q.number ∙ p.number;
    own = q.own ∙ p.own;
    halted = q.halted ∙ p.halted;
    balance = λ h. omega (arith, p.balance h, q.balance h);
  }

  -- only the thief changed, by the jobs that went out
  pub took : (m m' : Worker J W) (xs : List J) → m'.number ≡ m.number → m'.own ≡ m.own → m'.halted ≡ m.halted → m'.next ≡ m.next → m'.left.items ≡ m.left.items
      → Transfers m.thief m'.thief [] xs → Moved m [] m' xs
  took m m' xs number own halted tally left s = record {
    frames = s.frames;
    number = number;
    own = own;
    halted = halted;
    balance = λ h.
        let a = ap (λ o. weigh h (option_to_list o)) tally in
        let b = ap (weigh h) left in
        omega (arith, s.put h, s.taken h, a, b);
  }

  -- the first of the jobs that are to be pushed was pushed
  pub pushed_one : (m m' m2 : Worker J W) (xs rest rest' : List J) (job : J) → rest ≡ job ∷ rest' → m2.number ≡ m'.number → m2.own ≡ m'.own
      → m2.halted ≡ m'.halted → m2.next ≡ m'.next → m2.left ≡ m'.left
      → Transfers m'.thief m2.thief (job ∷ []) [] → Moved m xs m' rest → Moved m xs m2 rest'
  pushed_one m m' m2 xs rest rest' job is number own halted tally left s p = moved_then m m' m2 xs rest rest' p (record {
    frames = s.frames;
    number = number;
    own = own;
    halted = halted;
    balance = λ h.
        let a = ap (λ o. weigh h (option_to_list o)) tally in
        let b = ap (λ l. weigh h l.items) left in
        let e = ap (weigh h) is in
        omega (arith, s.put h, s.taken h, a, b, e);
  })

  -- it was refused, and is left with the others
  pub refused_one : (m m' m2 : Worker J W) (xs rest rest' : List J) (job back : J) → rest ≡ job ∷ rest' → back ≡ job → m'.left.items ≡ []
      → m2.left.items ≡ rest' ++ back ∷ []
      → m2.number ≡ m'.number → m2.own ≡ m'.own → m2.halted ≡ m'.halted → m2.next ≡ m'.next → Transfers m'.thief m2.thief [] [] → Moved m xs m' rest
      → Moved m xs m2 []
  refused_one m m' m2 xs rest rest' job back is same none left number own halted tally s p = moved_then m m' m2 xs rest [] p (record {
    frames = s.frames;
    number = number;
    own = own;
    halted = halted;
    balance = λ h.
        let a = ap (λ o. weigh h (option_to_list o)) tally in
        let b = ap (weigh h) left in
        let e = ap (weigh h) is in
        let z = ap (weigh h) none in
        let y = ap h same in
        omega (arith, s.put h, s.taken h, a, b, e, z, y, weigh-append h rest' (back ∷ []));
  })

  module _ (turned : ℕ → W → J → List J → Bool → W → Type 0) where
    pub from_moved : (m m' : Worker J W) (xs ys : List J) → Moved m xs m' ys → Worked turned m xs m' ys
    from_moved m m' xs ys p = record {
      frames = p.frames;
      number = p.number;
      turns = [];
      chain = sym p.own;
      stops = p.halted;
      balance = λ h. omega (arith, p.balance h);
    }

    pub worked_then : (a b c : Worker J W) (x y z : List J) → Worked turned a x b y → Worked turned b y c z → Worked turned a x c z
    worked_then a b c x y z p q = record {
      frames = q.frames ∙ p.frames;
      number = q.number ∙ p.number;
      turns = p.turns ++ q.turns;
      chain = chain_append (turned a.number) a.own b.own c.own p.turns q.turns p.chain (subst (λ n. Chain (turned n) b.own q.turns c.own) p.number q.chain);
      stops = stops_append a.halted b.halted c.halted p.turns q.turns p.stops q.stops;
      balance =
          λ h. omega (
            arith,
            p.balance h,
            q.balance h,
            weigh-append (λ (t : Turn J). h t.job) p.turns q.turns,
            weigh-append (λ (t : Turn J). weigh h t.more) p.turns q.turns,
          );
    }

    -- no turn was done
    pub no_turn : (m : Worker J W) → Worked turned m [] m []
    no_turn m = from_moved m m [] [] (still m [])

    -- a job was found, and then turned
    pub one_more : (a b c d : Worker J W) (job : J) → Worked turned a [] b [] → Moved b [] c (job ∷ []) → Worked turned c (job ∷ []) d []
        → Worked turned a [] d []
    one_more a b c d job before found done = worked_then a b d [] [] [] before (worked_then b c d [] (job ∷ []) [] (from_moved b c [] (job ∷ []) found) done)

    pub one_turn : (m m2 : Worker J W) (job : J) (more went : List J) (halt : Bool) → turned m.number m.own job more halt m2.own → m2.thief ≡ m.thief
        → m2.number ≡ m.number
        → m.halted ≡ false → m2.halted ≡ halt → ((h : J → ℕ) → weigh h more + held_weight h m ≡ weigh h went + held_weight h m2)
        → Worked turned m (job ∷ []) m2 went
    one_turn m m2 job more went halt done thief number fresh halted balance = record {
      frames = ap frame thief;
      number = number;
      turns = record { job = job; more = more; halt = halt } ∷ [];
      chain = (m2.own, done, refl);
      stops = (fresh, halted);
      balance = λ h. let a = ap (taken_weight h) thief in let b = ap (put_weight h) thief in omega (arith, balance h, a, b);
    }
