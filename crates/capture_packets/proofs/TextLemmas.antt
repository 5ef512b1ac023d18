-- The text of a capture that grows by a record.
use Rattle.std.proofs.Common.{◌≡◌, ℕ, ◌+◌, ◌%◌, ◌^◌, Bool, true, false, List, [], ◌∷◌, ◌++◌, length, Option, Some, None, Result, Ok, Err, OnOk, is_err, refl, sym, ap, subst, ◌∙◌, arith, append_assoc, if◌then◌else◌, ◌==◌, ◌||◌}
use Rattle.std.specs.Io.KnownBytes.{Appends}
use Rattle.std.specs.Option.{unwrap_or}
use Rattle.std.proofs.lemmas.List.{append-nil}
use Rattle.std.proofs.lemmas.List.Folds.{list_any-append}
use Rattle.std.proofs.lemmas.List.Sums.{sum_by-append, sum_by-cons}
use Rattle.std.proofs.lemmas.Bool.{or_parts, eqb-true}
use Rattle.std.proofs.Math.Nat.{mod-add-mod}
use Rattle.capture_form.specs.declared.records.What.{What}
use Rattle.capture_form.specs.declared.records.Record.{Record}
use Rattle.capture_packets.specs.declared.conversation.Conversation.{Conversation}
use Rattle.capture_packets.specs.Blocks.{file_head}
use Rattle.capture_packets.specs.Conversation.{record_blocks, octets_in, octets_out, behind, fresh}
use Rattle.capture_packets.specs.Text.{is_known, sent_with, conversation_of, blocks_at, blocks_behind, packets_text}

-- what is held where the octets were known
appended_to : (b : Option (List ℕ)) (xs ys : List ℕ) → Appends (Some xs) b ys → b ≡ Some (xs ++ ys)
appended_to None xs ys p = absurd p
appended_to (Some zs) xs ys p = ap (λ (t : List ℕ). Some t) p

appended : (a b : Option (List ℕ)) (xs ys : List ℕ) → a ≡ Some xs → Appends a b ys → b ≡ Some (xs ++ ys)
appended a b xs ys known p = appended_to b xs ys (subst (λ (t : Option (List ℕ)). Appends t b ys) known p)

-- the head of the file is the text of a capture without records
pub started : (a b : Option (List ℕ)) (front : List ℕ) → a ≡ Some front → Appends a b file_head → b ≡ Some (front ++ packets_text [])
unfolding packets_text
started a b front known p = appended a b front file_head known p ∙ ap (λ (t : List ℕ). Some (front ++ t)) (sym (append-nil file_head))

-- what an answer of Ok says
pub on_ok : {T E : Type 0} {P : Type 0} (result : Result T E) (x : T) → result ≡ Ok x → OnOk result P → P
on_ok {T} {E} {P} result x is told = subst (λ (r : Result T E). OnOk r P) is told

-- what an answer that is no error says
pub on_no_err : {T E : Type 0} {P : Type 0} (result : Result T E) → is_err result ≡ false → OnOk result P → P
on_no_err (Ok x) is told = told
on_no_err (Err e) is told = cc

-- the blocks of one record more
one_behind : (before records : List Record) (entry : Record) → blocks_behind before (records ++ entry ∷ []) ≡ blocks_behind before records ++ blocks_at (before ++ records) entry
one_behind before [] entry = append-nil (blocks_at before entry) ∙ ap (λ (t : List Record). blocks_at t entry) (sym (append-nil before))
one_behind before (first ∷ rest) entry =
    ap (λ (t : List ℕ). blocks_at before first ++ t) (one_behind (before ++ first ∷ []) rest entry)
    ∙ (sym (append_assoc (blocks_at before first) (blocks_behind (before ++ first ∷ []) rest) (blocks_at ((before ++ first ∷ []) ++ rest) entry))
    ∙ ap (λ (t : List Record). (blocks_at before first ++ blocks_behind (before ++ first ∷ []) rest) ++ blocks_at t entry) (append_assoc before (first ∷ []) rest))

-- the text of one record more
pub text_grows : (before : List Record) (entry : Record) → packets_text (before ++ entry ∷ []) ≡ packets_text before ++ blocks_at before entry
unfolding packets_text
text_grows before entry =
    ap (λ (t : List ℕ). file_head ++ t) (one_behind [] before entry) ∙ sym (append_assoc file_head (blocks_behind [] before) (blocks_at before entry))

-- a writer that held the text of the records so far holds that of one more
pub went_on : (a b : Option (List ℕ)) (front : List ℕ) (before : List Record) (entry : Record) (number : ℕ) (talk : Option Conversation)
    → talk ≡ conversation_of before entry.connection → number ≡ length before → a ≡ Some (front ++ packets_text before) → Appends a b (record_blocks talk number entry)
    → b ≡ Some (front ++ packets_text (before ++ entry ∷ []))
went_on a b front before entry number talk is at known p =
    let blocks : record_blocks talk number entry ≡ blocks_at before entry =
    ap (λ (t : Option Conversation). record_blocks t number entry) is ∙ ap (λ (n : ℕ). record_blocks (conversation_of before entry.connection) n entry) at in
    appended a b (front ++ packets_text before) (record_blocks talk number entry) known p
    ∙ ap (λ (t : List ℕ). Some t) (append_assoc front (packets_text before) (record_blocks talk number entry)
    ∙ ap (λ (t : List ℕ). front ++ t) (ap (λ (t : List ℕ). packets_text before ++ t) blocks ∙ sym (text_grows before entry)))

-- ---- the sequence numbers of one record more

unused : (same : Bool) (octets : ℕ) → same ≡ false → (if same then octets else 0) ≡ 0
unused true octets is = cc
unused false octets is = refl

-- where no record is of the connection nothing was sent on it
pub none_sent : (octets : What → ℕ) (records : List Record) (connection : ℕ) → is_known records connection ≡ false → sent_with octets records connection ≡ 0
none_sent octets [] connection unknown = refl
none_sent octets (first ∷ rest) connection unknown =
    let parts = or_parts (first.connection == connection) (is_known rest connection) unknown in
    let one = unused (first.connection == connection) (octets first.what) parts.0 in
    omega (arith, sum_by-cons (λ (entry : Record). if entry.connection == connection then octets entry.what else 0) first rest, none_sent octets rest connection parts.1)

-- the sequence numbers behind so many octets of both sides, where they are known
count : Bool → ℕ → ℕ → Option Conversation
count known client router = if known then Some (record { client = (9 + client) % 2 ^ 32; router = (9 + router) % 2 ^ 32 }) else None

abbrev talk_at : ℕ → ℕ → Option Conversation
talk_at client router = Some (record { client = client; router = router })

both : (a b c d : ℕ) → a ≡ b → c ≡ d → talk_at a c ≡ talk_at b d
both a b c d first second = ap (λ (n : ℕ). talk_at n c) first ∙ ap (λ (n : ℕ). talk_at b n) second

wrapped : (so_far more total : ℕ) → total ≡ so_far + more → total % 2 ^ 32 ≡ (so_far % 2 ^ 32 + more) % 2 ^ 32
wrapped so_far more total is = ap (λ (n : ℕ). n % 2 ^ 32) is ∙ sym (mod-add-mod so_far (2 ^ 32) more)

moved : (known same : Bool) (client router sent given : ℕ) (what : What) → (known ≡ false → client ≡ 0) → (known ≡ false → router ≡ 0) → sent ≡ octets_in what → given ≡ octets_out what
    → count (known || (same || false)) (client + ((if same then sent else 0) + 0)) (router + ((if same then given else 0) + 0))
    ≡ (if same then Some (behind (unwrap_or (count known client router) fresh) what) else count known client router)
unfolding count
moved true true client router sent given what no_client no_router is_sent is_given =
    both _ _ _ _ (wrapped (9 + client) (octets_in what) (9 + (client + (sent + 0))) (omega arith)) (wrapped (9 + router) (octets_out what) (9 + (router + (given + 0))) (omega arith))
moved false true client router sent given what no_client no_router is_sent is_given =
    let client_none = no_client refl in
    let router_none = no_router refl in
    both _ _ _ _ (ap (λ (n : ℕ). n % 2 ^ 32) (omega arith)) (ap (λ (n : ℕ). n % 2 ^ 32) (omega arith))
moved true false client router sent given what no_client no_router is_sent is_given =
    both _ _ _ _ (ap (λ (n : ℕ). n % 2 ^ 32) (omega arith)) (ap (λ (n : ℕ). n % 2 ^ 32) (omega arith))
moved false false client router sent given what no_client no_router is_sent is_given = refl

-- of an equal connection the records have come to the same
kept_at : (before : List Record) (one other : ℕ) (same : Bool) → (one == other) ≡ same → (what : What)
    → (if same then Some (behind (unwrap_or (conversation_of before other) fresh) what) else conversation_of before other)
    ≡ (if same then Some (behind (unwrap_or (conversation_of before one) fresh) what) else conversation_of before other)
kept_at before one other true is what = ap (λ (n : ℕ). Some (behind (unwrap_or (conversation_of before n) fresh) what)) (sym (eqb-true one other is))
kept_at before one other false is what = refl

-- what one side has sent with one record more
one_more_sent : (octets : What → ℕ) (before : List Record) (entry : Record) (connection : ℕ)
    → sent_with octets (before ++ entry ∷ []) connection ≡ sent_with octets before connection + ((if entry.connection == connection then octets entry.what else 0) + 0)
one_more_sent octets before entry connection =
    let sent : Record → ℕ = λ e. if e.connection == connection then octets e.what else 0 in
    omega (arith, sum_by-append sent before (entry ∷ []), sum_by-cons sent entry [])

-- what the sequence numbers have come to behind one record more
pub grows : (before : List Record) (entry : Record) (connection : ℕ) → conversation_of (before ++ entry ∷ []) connection
    ≡ (if entry.connection == connection then Some (behind (unwrap_or (conversation_of before entry.connection) fresh) entry.what) else conversation_of before connection)
unfolding conversation_of count
grows before entry connection =
    let known = is_known before connection in
    let same = entry.connection == connection in
    let client = sent_with octets_in before connection in
    let router = sent_with octets_out before connection in
    let more = before ++ entry ∷ [] in
    ap (λ (k : Bool). count k (sent_with octets_in more connection) (sent_with octets_out more connection)) (list_any-append (λ (e : Record). e.connection == connection) before (entry ∷ []))
    ∙ (ap (λ (n : ℕ). count (known || (same || false)) n (sent_with octets_out more connection)) (one_more_sent octets_in before entry connection)
    ∙ (ap (λ (n : ℕ). count (known || (same || false)) (client + ((if same then octets_in entry.what else 0) + 0)) n) (one_more_sent octets_out before entry connection)
    ∙ (moved known same client router (octets_in entry.what) (octets_out entry.what) entry.what (none_sent octets_in before connection) (none_sent octets_out before connection) refl refl
    ∙ kept_at before entry.connection connection same refl entry.what)))

-- where the sequence numbers were those of the records so far, and move on, they are those of one record more
pub moves_on : (old new : ℕ → Option Conversation) (before : List Record) (entry : Record) → ((connection : ℕ) → old connection ≡ conversation_of before connection)
    → ((connection : ℕ) → new connection ≡ (if entry.connection == connection then Some (behind (unwrap_or (old entry.connection) fresh) entry.what) else old connection))
    → (connection : ℕ) → new connection ≡ conversation_of (before ++ entry ∷ []) connection
moves_on old new before entry was moves connection =
    let same = entry.connection == connection in
    moves connection
    ∙ (ap (λ (talk : Option Conversation). if same then Some (behind (unwrap_or talk fresh) entry.what) else old connection) (was entry.connection)
    ∙ (ap (λ (talk : Option Conversation). if same then Some (behind (unwrap_or (conversation_of before entry.connection) fresh) entry.what) else talk) (was connection)
    ∙ sym (grows before entry connection)))

-- ---- a record among others

-- the blocks of records in two parts
two_parts : (before first rest : List Record) → blocks_behind before (first ++ rest) ≡ blocks_behind before first ++ blocks_behind (before ++ first) rest
two_parts before [] rest = ap (λ (t : List Record). blocks_behind t rest) (sym (append-nil before))
two_parts before (entry ∷ first) rest =
    ap (λ (t : List ℕ). blocks_at before entry ++ t) (two_parts (before ++ entry ∷ []) first rest)
    ∙ (sym (append_assoc (blocks_at before entry) (blocks_behind (before ++ entry ∷ []) first) (blocks_behind ((before ++ entry ∷ []) ++ first) rest))
    ∙ ap (λ (t : List Record). (blocks_at before entry ++ blocks_behind (before ++ entry ∷ []) first) ++ blocks_behind t rest) (append_assoc before (entry ∷ []) first))

pub stands_among : (before rest : List Record) (entry : Record) → packets_text (before ++ entry ∷ rest) ≡ packets_text before ++ (blocks_at before entry ++ blocks_behind (before ++ entry ∷ []) rest)
unfolding packets_text
stands_among before rest entry =
    ap (λ (t : List ℕ). file_head ++ t) (two_parts [] before (entry ∷ rest)) ∙ sym (append_assoc file_head (blocks_behind [] before) (blocks_behind before (entry ∷ rest)))
