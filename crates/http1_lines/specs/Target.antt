-- The target of a request line (02, item 2; RFC 9112, section 3.2): origin-form, "*" for OPTIONS, or absolute-form with http or https. What of it is the
-- authority and what the path, and what is put before the path. Here and nowhere else: the forms of a target. Nothing here knows of Host.
use Rattle.std.specs.Prelude.{ℕ, ◌+◌, ◌-◌, Bool, false, cond, not, List, map, leb, eqb, length, get_or, take, drop, true, Result, Ok, Err}
use Rattle.octets.specs.Ascii.{ascii}
use Rattle.octets.specs.Class.{has_class, path}
use Rattle.octets.specs.Text.{span_len, all, lower_of, same_text, is_empty}
use Rattle.octets.specs.Limits.{path_most}
use Rattle.octets.specs.declared.Refusal.{Refusal}
use Rattle.octets.specs.declared.Refusal.TheVariants.{BadSyntax, BadHost, TooLarge, OtherScheme}
use Rattle.messages.specs.Control.{path_verdict, is_host, behind}
use Rattle.messages.specs.Message.{prefix_octets}
use Rattle.messages.specs.declared.PathPrefix.{PathPrefix}
use Rattle.messages.specs.declared.PathPrefix.TheVariants as prefix
use Rattle.http1_lines.specs.declared.Target.{Target}

-- ---- origin-form, and "*"

-- the whole target, of n octets, is the path
abbrev pub path_alone : ℕ → Target
path_alone n = record { prefix = prefix.Nothing; start = 0; len = n; host = 0; hostlen = 0 }

-- judged as a path in control data is: "/" first, or "*" where the method is OPTIONS; any other target is 4
unfoldable pub plain_target : Bool → List ℕ → Result Target Refusal
plain_target options w = behind (path_verdict options w) (Ok (path_alone (length w)))

-- ---- absolute-form

-- whether a scheme with its "://" stands at the front, in any case of letters
unfoldable pub starts_with : List ℕ → List ℕ → Bool
starts_with scheme w = same_text (map lower_of (take (length scheme) w)) scheme

-- how many octets a scheme takes with its "://"; 0 where neither stands at the front
unfoldable pub scheme_len : List ℕ → ℕ
scheme_len w = cond (starts_with (ascii "http://") w) 7 (cond (starts_with (ascii "https://") w) 8 0)

-- the number of the scheme that takes so many octets
abbrev pub scheme_number : ℕ → ℕ
scheme_number k = k - 7

-- an octet of what stands between "://" and the path or the query
unfoldable pub is_before_path : ℕ → Bool
is_before_path b = cond (eqb b 47) false (not (eqb b 63))

-- what is put before the path's own octets w: a slash where there is no path, before the query if there is one; for OPTIONS with neither it is "*"
unfoldable pub prefix_of : Bool → List ℕ → PathPrefix
prefix_of options w =
    cond (is_empty w) (cond options prefix.Asterisk prefix.Slash) (cond (eqb (get_or w 0 0) 47) prefix.Nothing prefix.Slash)

-- the authority stands from k to e, the path's own octets behind it: the size of the path, then the scheme, which is the connection's
unfoldable pub absolute_path : ℕ → Bool → List ℕ → ℕ → ℕ → Result Target Refusal
absolute_path scheme options w k e =
    cond (leb (length (prefix_octets (prefix_of options (drop e w))) + (length w - e)) path_most)
    (cond (eqb (scheme_number k) scheme)
    (Ok (record { prefix = prefix_of options (drop e w); start = e; len = length w - e; host = k; hostlen = e - k }))
    (Err OtherScheme))
    (Err TooLarge)

-- behind a scheme of k octets: octets of a target everywhere, then the authority, which goes up to the path, the query or the end
unfoldable pub absolute_target : ℕ → Bool → List ℕ → ℕ → Result Target Refusal
absolute_target scheme options w k =
    cond (all (has_class path) w)
    (cond (is_host (take (span_len is_before_path (drop k w)) (drop k w)))
    (absolute_path scheme options w k (k + span_len is_before_path (drop k w)))
    (Err BadHost))
    (Err BadSyntax)

-- ---- any target

-- a target, judged, on a connection of the scheme told; `options` says whether the method is OPTIONS
unfoldable pub target_of : ℕ → Bool → List ℕ → Result Target Refusal
target_of scheme options w = cond (eqb (scheme_len w) 0) (plain_target options w) (absolute_target scheme options w (scheme_len w))
