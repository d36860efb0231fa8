-- The families of figures. Names: Prometheus, 'Metric and label naming'; the names and sentences themselves are own rules, except that of the start time, which clients of Prometheus give.
use Rattle.std.specs.Prelude.{ℕ, List, codes}
use Rattle.figures.specs.declared.family.Family.{Family}
use Rattle.figures.specs.declared.family.Family.TheVariants.{Documents, DocumentAge, Publication, Entries, Bundles, Identities, NextEnd, Signings, SigningSeconds, Connections, ConnectionsTotal, Streams, Calls, Messages, ConnectionFaults, Bytes, LinesDropped, StartTime}
use Rattle.figures.specs.declared.family.Kind.{Kind}
use Rattle.figures.specs.declared.family.Kind.TheVariants.{Counter, Gauge, Histogram}

unfoldable pub name_of : Family → List ℕ
name_of Documents = codes "agentd_documents_total"
name_of DocumentAge = codes "agentd_document_age_seconds"
name_of Publication = codes "agentd_publication"
name_of Entries = codes "agentd_entries"
name_of Bundles = codes "agentd_bundles"
name_of Identities = codes "agentd_identities"
name_of NextEnd = codes "agentd_next_end_seconds"
name_of Signings = codes "agentd_signings_total"
name_of SigningSeconds = codes "agentd_signing_seconds"
name_of Connections = codes "agentd_connections"
name_of ConnectionsTotal = codes "agentd_connections_total"
name_of Streams = codes "agentd_streams"
name_of Calls = codes "agentd_calls_total"
name_of Messages = codes "agentd_messages_total"
name_of ConnectionFaults = codes "agentd_connection_faults_total"
name_of Bytes = codes "agentd_bytes_total"
name_of LinesDropped = codes "agentd_log_lines_dropped_total"
name_of StartTime = codes "process_start_time_seconds"

unfoldable pub help_of : Family → List ℕ
help_of Documents = codes "Pulls of the document, by result."
help_of DocumentAge = codes "Seconds since a document that was taken came last."
help_of Publication = codes "Number of the last publication."
help_of Entries = codes "Entries of the document in use."
help_of Bundles = codes "Bundles of the document in use."
help_of Identities = codes "Entries of the document in use, by the state of their identity."
help_of NextEnd = codes "Seconds until the next identity ends."
help_of Signings = codes "Asks of the signer, by kind and result."
help_of SigningSeconds = codes "Seconds that asks of the signer took."
help_of Connections = codes "Open connections, by socket."
help_of ConnectionsTotal = codes "Accepted connections, by socket."
help_of Streams = codes "Calls that have not ended, by socket."
help_of Calls = codes "Calls that ended, by socket, method and status."
help_of Messages = codes "Messages that answered calls, by socket and method."
help_of ConnectionFaults = codes "Connections that failed, by cause."
help_of Bytes = codes "Bytes of connections, by direction."
help_of LinesDropped = codes "Lines of the log that could not be written at once."
help_of StartTime = codes "Start time of the process since the Unix epoch in seconds."

unfoldable pub kind_of : Family → Kind
kind_of Documents = Counter
kind_of DocumentAge = Gauge
kind_of Publication = Gauge
kind_of Entries = Gauge
kind_of Bundles = Gauge
kind_of Identities = Gauge
kind_of NextEnd = Gauge
kind_of Signings = Counter
kind_of SigningSeconds = Histogram
kind_of Connections = Gauge
kind_of ConnectionsTotal = Counter
kind_of Streams = Gauge
kind_of Calls = Counter
kind_of Messages = Counter
kind_of ConnectionFaults = Counter
kind_of Bytes = Counter
kind_of LinesDropped = Counter
kind_of StartTime = Gauge

unfoldable pub kind_name : Kind → List ℕ
kind_name Counter = codes "counter"
kind_name Gauge = codes "gauge"
kind_name Histogram = codes "histogram"
