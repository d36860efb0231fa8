-- The texts that are written, which PEM and JSON have in svid_forms, and the lines (own rules): ids, tokens and texts of the server are escaped, and nothing stands for the empty
-- byte string.
use Rattle.std.specs.Prelude.{ℕ, ◌==◌, ◌&&◌, nat_lt, length, if◌then◌else◌, List, [], ◌∷◌, ◌++◌, codes, Bool, Option, Some, None, Result, Ok, Err}
use Rattle.std.specs.Fmt.{decimal}
use Rattle.std.specs.List.{flat_map, list_all}
use Rattle.pb_wire.specs.declared.fault.FieldFault.{FieldFault}
use Rattle.pb_wire.specs.declared.fault.FieldFault.TheVariants.{FieldKind}
use Rattle.wl_client.specs.declared.response.X509Response.{X509Response}
use Rattle.wl_client.specs.declared.response.X509Item.{X509Item}
use Rattle.wl_client.specs.declared.response.MapItem.{MapItem}
use Rattle.wl_client.specs.declared.response.BundlesResponse.{BundlesResponse}
use Rattle.wl_client.specs.declared.response.JwtResponse.{JwtResponse}
use Rattle.wl_client.specs.declared.response.JwtItem.{JwtItem}
use Rattle.wl_client.specs.declared.fault.ClientFault.{ClientFault}
use Rattle.wl_client.specs.Faults.{number_of}
use Rattle.wl_client.specs.declared.response.JwtBundlesResponse.{JwtBundlesResponse}
use Rattle.wl_client.specs.Messages.{x509_of, bundles_of, jwt_of, jwt_bundles_of, state_of}
use Rattle.workload_proto.specs.declared.field_number.TheConstants.{X509_SVID_CHAIN, MAP_ITEM_VALUE}
use Rattle.grpc_wire.specs.Messages.{framed}
use Rattle.svid_files.specs.Files.{has_files}
use Rattle.bundle_files.specs.declared.kind.BundleKind.{BundleKind}
use Rattle.bundle_files.specs.declared.kind.BundleKind.TheVariants as bundle_kinds
use Rattle.bundle_files.specs.Files.{have_files}
use Rattle.jws_text.specs.declared.said.Said.{Said}
use Rattle.jws_text.specs.Tokens.{said_in}
use Rattle.svid_forms.specs.Decoded.{decoded_json}
use Rattle.svid_forms.specs.Blocks.{svid_blocks, bundle_blocks, is_svid_whole, is_bundle_whole}
use Rattle.svid_forms.specs.Json.{x509_json, bundles_json, jwt_json, jwt_bundles_json}
use Rattle.wl_control.specs.declared.asked.Kind.{Kind}
use Rattle.wl_control.specs.declared.asked.Kind.TheVariants.{X509, X509Frame, BundlesFrame, Bundles, Jwt, DecodedJwt, JwtBundles, State}
use Rattle.wl_control.specs.declared.request.Form.TheVariants.{Lines, Pem, Json}
use Rattle.wl_control.specs.declared.request.TokenForm.TheVariants as token
use Rattle.wl_control.specs.Escapes.{hex, escaped}

-- the end of a line
abbrev pub line_end : List ℕ
line_end = 10 ∷ []

unfoldable pub svid_line : X509Item → List ℕ
svid_line s = codes "svid " ++ escaped s.spiffe_id ++ codes " chain=" ++ hex s.chain ++ codes " key=" ++ hex s.key ++ codes " bundle=" ++ hex s.bundle ++ codes " hint=" ++ hex s.hint ++ line_end

unfoldable pub bundle_line : MapItem → List ℕ
bundle_line b = codes "bundle " ++ escaped b.key ++ codes " bundle=" ++ hex b.value ++ line_end

unfoldable pub jwt_start : JwtItem → List ℕ
jwt_start s = codes "jwt " ++ escaped s.spiffe_id ++ codes " " ++ escaped s.svid ++ codes " hint=" ++ hex s.hint

unfoldable pub jwt_line : JwtItem → List ℕ
jwt_line s = jwt_start s ++ line_end

-- what a token says, whose signature nobody verified
unfoldable pub said_parts : List ℕ → List ℕ → List ℕ
said_parts head claims = codes " head=" ++ escaped head ++ codes " claims=" ++ escaped claims

abbrev pub said_part : Option Said → List ℕ
said_part None = codes " undecodable"
said_part (Some s) = said_parts s.head s.claims

unfoldable pub decoded_line : JwtItem → List ℕ
decoded_line s = jwt_start s ++ said_part (said_in s.svid) ++ codes " signature=unverified" ++ line_end

-- grpc.health.v1: 1 is SERVING, 2 NOT_SERVING; own rule: any other is reported as unknown
unfoldable pub state_line : ℕ → List ℕ
state_line state = if state == 1 then codes "serving\n" else if state == 2 then codes "not serving\n" else codes "service unknown\n"

unfoldable pub status_line : ℕ → List ℕ → List ℕ
status_line code text = codes "status " ++ decimal code ++ codes " " ++ escaped text ++ line_end

unfoldable pub fault_line : ClientFault → List ℕ
fault_line fault = codes "fault client " ++ decimal (number_of fault) ++ line_end

-- the lines of a message, or why it has none
abbrev pub lines_by : {M : Type 0} → (M → List ℕ) → Result M FieldFault → Result (List ℕ) FieldFault
lines_by lines (Ok m) = Ok (lines m)
lines_by lines (Err fault) = Err fault

-- the same of a message whose certificates have to be whole, of which this field isn't what it has to be
abbrev pub whole_by : {M : Type 0} → ℕ → (M → Bool) → (M → List ℕ) → Result M FieldFault → Result (List ℕ) FieldFault
whole_by field is_whole lines (Ok m) = if is_whole m then Ok (lines m) else Err (FieldKind field)
whole_by field is_whole lines (Err fault) = Err fault

abbrev pub svid_lines : X509Response → List ℕ
svid_lines m = flat_map svid_line m.svids

abbrev pub bundle_lines : BundlesResponse → List ℕ
bundle_lines m = flat_map bundle_line m.bundles

abbrev pub jwt_lines : JwtResponse → List ℕ
jwt_lines m = flat_map jwt_line m.svids

abbrev pub decoded_lines : JwtResponse → List ℕ
decoded_lines m = flat_map decoded_line m.svids

abbrev pub jwt_bundle_lines : JwtBundlesResponse → List ℕ
jwt_bundle_lines m = flat_map bundle_line m.bundles

-- PEM: the certificates of the SVIDs and of their bundles are whole, and so are those of each bundle
abbrev pub svids_are_whole : X509Response → Bool
svids_are_whole m = list_all is_svid_whole m.svids

abbrev pub svids_pem : X509Response → List ℕ
svids_pem m = flat_map svid_blocks m.svids

-- a message that has files, as a frame of gRPC with its length in four bytes
abbrev pub may_be_kept : List ℕ → X509Response → Bool
may_be_kept message m = has_files m && nat_lt (length message) 4294967296

-- the same of a message with these bundles
abbrev pub may_bundles_be_kept : BundleKind → List ℕ → List MapItem → Bool
may_bundles_be_kept kind message items = have_files kind items && nat_lt (length message) 4294967296

abbrev pub bundles_are_whole : BundlesResponse → Bool
bundles_are_whole m = list_all is_bundle_whole m.bundles

abbrev pub bundles_pem : BundlesResponse → List ℕ
bundles_pem m = flat_map bundle_blocks m.bundles

unfoldable pub lines_of : Kind → List ℕ → Result (List ℕ) FieldFault
lines_of (X509 Lines) message = lines_by svid_lines (x509_of message)
lines_of (X509 Pem) message = whole_by X509_SVID_CHAIN svids_are_whole svids_pem (x509_of message)
lines_of X509Frame message = whole_by X509_SVID_CHAIN (may_be_kept message) (λ m. framed message) (x509_of message)
lines_of (BundlesFrame bundle_kinds.X509) message = whole_by MAP_ITEM_VALUE (λ m. may_bundles_be_kept bundle_kinds.X509 message m.bundles) (λ m. framed message) (bundles_of message)
lines_of (BundlesFrame bundle_kinds.Jwt) message = whole_by MAP_ITEM_VALUE (λ m. may_bundles_be_kept bundle_kinds.Jwt message m.bundles) (λ m. framed message) (jwt_bundles_of message)
lines_of (X509 Json) message = lines_by x509_json (x509_of message)
lines_of (Bundles Lines) message = lines_by bundle_lines (bundles_of message)
lines_of (Bundles Pem) message = whole_by MAP_ITEM_VALUE bundles_are_whole bundles_pem (bundles_of message)
lines_of (Bundles Json) message = lines_by bundles_json (bundles_of message)
lines_of (Jwt token.Lines) message = lines_by jwt_lines (jwt_of message)
lines_of (Jwt token.Json) message = lines_by jwt_json (jwt_of message)
lines_of (DecodedJwt token.Lines) message = lines_by decoded_lines (jwt_of message)
lines_of (DecodedJwt token.Json) message = lines_by decoded_json (jwt_of message)
lines_of (JwtBundles token.Lines) message = lines_by jwt_bundle_lines (jwt_bundles_of message)
lines_of (JwtBundles token.Json) message = lines_by jwt_bundles_json (jwt_bundles_of message)
lines_of State message = lines_by state_line (state_of message)
