-- Names are gathered: what had a variable with room still has one.
use Rattle.std.proofs.Common.{◌≡◌, ℕ, zero, suc, ◌+◌, ◌<◌, ◌≤◌, true, false, List, [], ◌∷◌, ◌++◌, length}
use Rattle.std.proofs.Common.{take, get_or, refl, sym, ap, ◌∙◌, subst, arith, length-append, add-one}
use Rattle.std.specs.Prelude.{Some, None, max, slice_get, slice_set, slice_index, if◌then◌else◌, bytes_eq, Result, Ok, Err, OnOk}
use Rattle.std.proofs.lemmas.List.{length-set}
use Rattle.std.proofs.lemmas.Slice.Eq.{bytes_eq-Decides}
use Rattle.std.proofs.Math.Seq.{take-suc}
use Rattle.std.proofs.lemmas.Option.{same_Some}
use Rattle.fut_base.proofs.Cases.{by_bool}
use Rattle.fut_syntax.specs.declared.tree.Stmt.{Stmt}
use Rattle.fut_syntax.specs.declared.tree.Param.{Param}
use Rattle.fut_syntax.specs.Trees as tree
use Rattle.fut_syntax.specs.Views.{stmt_tree, block_tree, params_tree, param_tree}
use Rattle.task_frame.specs.declared.names.Name.{Name}
use Rattle.task_frame.specs.Names.{find_from, find_name, rooms_by}
use Rattle.task_frame.specs.Gathered.{room_of, Has, HasInit, HasStmt, HasBlock, HasTail, HasParams, HasRoomAt, Widens, words_of_stmt, words_of_block}

pub both : {X E : Type 0} (r : Result X E) (P Q : Type 0) → OnOk r P → OnOk r Q → OnOk r (P × Q)
both (Ok x) P Q p q = (p, q)
both (Err e) P Q p q = tt

-- ---- finding

pub found_below : (k : ℕ) (names : List Name) (w : List ℕ) (n : ℕ) → find_from k names w ≡ Some n → n < k + length names
found_below k [] w n h = absurd (let e : None ≡ Some n = h in cc)
found_below k (d ∷ names) w n h =
    by_bool (λ b. (if b then Some k else find_from (k + 1) names w) ≡ Some n → n < k + length (d ∷ names)) (bytes_eq d.word w)
    (λ t e. let s = same_Some k n e in omega (arith, s))
    (λ f e. let r = found_below (k + 1) names w n e in omega (arith, r))
    h

-- ---- a name with more room

found_still : (k : ℕ) (old : List Name) (place : ℕ) (d e : Name) → slice_get old place ≡ Some d → e.word ≡ d.word → (w : List ℕ)
    → find_from k (slice_set old place e) w ≡ find_from k old w
found_still k [] place d e h same w = refl
found_still k (x ∷ old) zero d e h same w =
    let is : x ≡ d = same_Some x d h in
    ap (λ v. if bytes_eq v w then Some k else find_from (k + 1) old w) (same ∙ ap (λ (q : Name). q.word) (sym is))
found_still k (x ∷ old) (suc place) d e h same w = ap (λ o. if bytes_eq x.word w then Some k else o) (found_still (k + 1) old place d e h same w)

wider : (old : List Name) (place : ℕ) (d e : Name) → slice_get old place ≡ Some d → d.room ≤ e.room → (n : ℕ)
    → slice_index (rooms_by old) n ≤ slice_index (rooms_by (slice_set old place e)) n
wider [] place d e h le n = omega arith
wider (x ∷ old) zero d e h le zero = let is : x ≡ d = same_Some x d h in let room = ap (λ (q : Name). q.room) is in omega (arith, room, le)
wider (x ∷ old) zero d e h le (suc n) = omega arith
wider (x ∷ old) (suc place) d e h le zero = omega arith
wider (x ∷ old) (suc place) d e h le (suc n) = wider old place d e h le n

room_set : (old : List Name) (place : ℕ) (d e : Name) → slice_get old place ≡ Some d → slice_index (rooms_by (slice_set old place e)) place ≡ max 1 e.room
room_set [] place d e h = absurd (let i : None ≡ Some d = h in cc)
room_set (x ∷ old) zero d e h = refl
room_set (x ∷ old) (suc place) d e h = room_set old place d e h

abbrev with_room : Name → ℕ → Name
with_room d room = record { word = d.word; room = max d.room room }

pub widened : (old new : List Name) (place room : ℕ) → HasRoomAt old new place room → Widens old new 1
widened old new place room x =
    let e = with_room x.name room in
    record {
      keeps = λ w most h. record {
        number = h.number;
        found = ap (λ l. find_name l w) x.is ∙ (found_still 0 old place x.name e x.present refl w ∙ h.found);
        wide =
            (let a = wider old place x.name e x.present (omega arith) h.number in let b = ap (λ l. slice_index (rooms_by l) h.number) x.is in let c =
            h.wide in omega (arith, a, b, c));
      };
      few = (let a = ap length x.is ∙ length-set old place e in omega (arith, a));
    }

pub has_widened : (old new : List Name) (w : List ℕ) (place room : ℕ) → find_name old w ≡ Some place → HasRoomAt old new place room → Has new w room
has_widened old new w place room found x =
    let e = with_room x.name room in
    record {
      number = place;
      found = ap (λ l. find_name l w) x.is ∙ (found_still 0 old place x.name e x.present refl w ∙ found);
      wide = (let a = room_set old place x.name e x.present in let b = ap (λ l. slice_index (rooms_by l) place) x.is in omega (arith, a, b));
    }

-- ---- a new name

found_more : (k : ℕ) (old : List Name) (d : Name) (w : List ℕ) (n : ℕ) → find_from k old w ≡ Some n → find_from k (old ++ d ∷ []) w ≡ Some n
found_more k [] d w n h = absurd (let e : None ≡ Some n = h in cc)
found_more k (x ∷ old) d w n h =
    by_bool (λ b. (if b then Some k else find_from (k + 1) old w) ≡ Some n → (if b then Some k else find_from (k + 1) (old ++ d ∷ []) w) ≡ Some n)
    (bytes_eq x.word w)
    (λ t e. e) (λ f e. found_more (k + 1) old d w n e) h

found_last : (k : ℕ) (old : List Name) (d : Name) (w : List ℕ) → bytes_eq d.word w ≡ true → find_from k old w ≡ None
    → find_from k (old ++ d ∷ []) w ≡ Some (k + length old)
found_last k [] d w is h =
    let n : k ≡ k + 0 = omega arith in
    by_bool (λ b. b ≡ true → (if b then Some k else None) ≡ Some (k + 0)) (bytes_eq d.word w) (λ t e. ap (λ m. Some m) n)
    (λ f e. absurd (let q : false ≡ true = e in cc)) is
found_last k (x ∷ old) d w is h =
    let n : (k + 1) + length old ≡ k + length (x ∷ old) = omega arith in
    by_bool
    (λ b. (if b then Some k else find_from (k + 1) old w) ≡ None → (if b then Some k else find_from (k + 1) (old ++ d ∷ []) w)
    ≡ Some (k + length (x ∷ old))) (bytes_eq x.word w)
    (λ t e. absurd (let q : Some k ≡ None = e in cc)) (λ f e. found_last (k + 1) old d w is e ∙ ap (λ m. Some m) n) h

room_more : (old : List Name) (d : Name) (n : ℕ) → slice_index (rooms_by old) n ≤ slice_index (rooms_by (old ++ d ∷ [])) n
room_more [] d n = omega arith
room_more (x ∷ old) d zero = omega arith
room_more (x ∷ old) d (suc n) = room_more old d n

room_last : (old : List Name) (d : Name) → slice_index (rooms_by (old ++ d ∷ [])) (length old) ≡ max 1 d.room
room_last [] d = refl
room_last (x ∷ old) d = room_last old d

pub pushed : (old new : List Name) (d : Name) → new ≡ old ++ d ∷ [] → Widens old new 1
pushed old new d is =
    record {
      keeps = λ w most h. record {
        number = h.number;
        found = ap (λ l. find_name l w) is ∙ found_more 0 old d w h.number h.found;
        wide = (let a = room_more old d h.number in let b = ap (λ l. slice_index (rooms_by l) h.number) is in let c = h.wide in omega (arith, a, b, c));
      };
      few = (let a = ap length is ∙ length-append old (d ∷ []) in omega (arith, a));
    }

pub has_pushed : (old new : List Name) (d : Name) (w : List ℕ) → new ≡ old ++ d ∷ [] → d.word ≡ w → find_name old w ≡ None → Has new w d.room
has_pushed old new d w is same none =
    let own : bytes_eq d.word w ≡ true = (bytes_eq-Decides d.word w).1 same in
    let at : 0 + length old ≡ length old = omega arith in
    record {
      number = length old;
      found = ap (λ l. find_name l w) is ∙ (found_last 0 old d w own none ∙ ap (λ n. Some n) at);
      wide = (let a = room_last old d in let b = ap (λ l. slice_index (rooms_by l) (length old)) is in omega (arith, a, b));
    }

-- ---- what is there stays

pub widens_not : (names : List Name) → Widens names names 0
widens_not names = record { keeps = λ w room h. h; few = omega arith }

pub widens_on : (a b c : List Name) (m n : ℕ) → Widens a b m → Widens b c n → Widens a c (m + n)
widens_on a b c m n x y = record { keeps = λ w room h. y.keeps w room (x.keeps w room h); few = (let p = x.few in let q = y.few in omega (arith, p, q)) }

module _ (old new : List Name) (most : ℕ) (x : Widens old new most) where
  pub init_stays : (i : tree.Init) → HasInit old i → HasInit new i
  init_stays (tree.GetOf w) h = x.keeps w 1 h
  init_stays (tree.CreateOf w es) h = tt
  init_stays (tree.Index w e) h = tt
  init_stays (tree.Value e) h = tt

  mutual
    pub stmt_stays : (s : tree.Stmt) → HasStmt old s → HasStmt new s
    stmt_stays (tree.Declare w v) h = x.keeps w (room_of v) h
    stmt_stays (tree.Define w v i) h = (x.keeps w (room_of v) h.0, init_stays i h.1)
    stmt_stays (tree.Assign w i) h = (x.keeps w 1 h.0, init_stays i h.1)
    stmt_stays (tree.Store w e f) h = tt
    stmt_stays (tree.SpawnOf w es) h = tt
    stmt_stays tree.SyncAll h = tt
    stmt_stays (tree.If' e b t) h = (block_stays b h.0, tail_stays t h.1)
    stmt_stays (tree.While' e b) h = block_stays b h
    stmt_stays (tree.Return' e) h = tt

    pub block_stays : (b : tree.Block) → HasBlock old b → HasBlock new b
    block_stays tree.Done h = tt
    block_stays (tree.Then s b) h = (stmt_stays s h.0, block_stays b h.1)

    pub tail_stays : (t : tree.Tail) → HasTail old t → HasTail new t
    tail_stays tree.NoElse h = tt
    tail_stays (tree.ElseOf b) h = block_stays b h

  pub params_stay : (ps : List tree.Param) → HasParams old ps → HasParams new ps
  params_stay [] h = tt
  params_stay (p ∷ ps) h = (x.keeps p.name (room_of p.type) h.0, params_stay ps h.1)

-- ---- one statement, or one parameter, more

has_and : (names : List Name) (xs : List Stmt) (s : Stmt) → HasBlock names (block_tree xs) → HasStmt names (stmt_tree s)
    → HasBlock names (block_tree (xs ++ s ∷ []))
has_and names [] s h k = (k, tt)
has_and names (x ∷ xs) s h k = (h.0, has_and names xs s h.1 k)

words_and : (xs : List Stmt) (s : Stmt) → words_of_block (block_tree (xs ++ s ∷ [])) ≡ words_of_block (block_tree xs) + words_of_stmt (stmt_tree s)
words_and [] s = omega arith
words_and (x ∷ xs) s = let r = words_and xs s in omega (arith, r)

params_and : (names : List Name) (ps : List Param) (p : Param) → HasParams names (params_tree ps) → Has names p.name (room_of (param_tree p).type)
    → HasParams names (params_tree (ps ++ p ∷ []))
params_and names [] p h k = (k, tt)
params_and names (q ∷ ps) p h k = (h.0, params_and names ps p h.1 k)

taken_more : {X : Type 0} (xs : List X) (i : ℕ) (x : X) → i < length xs → x ≡ get_or xs i x → take (i + 1) xs ≡ take i xs ++ x ∷ []
taken_more xs i x lt is = ap (λ n. take n xs) (add-one i) ∙ (take-suc xs i x lt ∙ ap (λ z. take i xs ++ z ∷ []) (sym is))

-- after a part of a block has been gone over
pub record Gathered (first names : List Name) (b : tree.Block) : Type 0 where
  pub has : HasBlock names b
  pub more : Widens first names (words_of_block b)

pub block_step : (first old new : List Name) (body : List Stmt) (i : ℕ) (s : Stmt) → i < length body → s ≡ get_or body i s
    → Gathered first old (block_tree (take i body))
    → HasStmt new (stmt_tree s) → Widens old new (words_of_stmt (stmt_tree s)) → Gathered first new (block_tree (take (i + 1) body))
block_step first old new body i s lt is h has more =
    let one : block_tree (take (i + 1) body) ≡ block_tree (take i body ++ s ∷ []) = ap block_tree (taken_more body i s lt is) in
    let count = words_and (take i body) s in
    let both = widens_on first old new (words_of_block (block_tree (take i body))) (words_of_stmt (stmt_tree s)) h.more more in
    subst (Gathered first new) (sym one)
    (record {
      has = has_and new (take i body) s (block_stays old new (words_of_stmt (stmt_tree s)) more (block_tree (take i body)) h.has) has;
      more = subst (Widens first new) (sym count) both;
    })

pub params_step : (old new : List Name) (ps : List Param) (i : ℕ) (p : Param) → i < length ps → p ≡ get_or ps i p → HasParams old (params_tree (take i ps))
    → Has new p.name (room_of (param_tree p).type) → Widens old new 1 → HasParams new (params_tree (take (i + 1) ps))
params_step old new ps i p lt is h has more =
    subst (λ l. HasParams new (params_tree l)) (sym (taken_more ps i p lt is))
    (params_and new (take i ps) p (params_stay old new 1 more (params_tree (take i ps)) h) has)
